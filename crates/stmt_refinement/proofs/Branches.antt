-- Labels and branches as steps: a label is placed by an action of its own; a branch goes to a label, which may be new, or to
-- an address.
use Prim.Native.Nat.{ℕ, zero, suc, ◌+◌, ◌*◌, ◌%◌, ◌^◌, ◌≤◌, ◌<◌}
use mathlib.Core.Path.{◌≡◌, refl, sym, ◌∙◌, ap, subst}
use mathlib.Core.Bool.{false}
use mathlib.Core.List.{List, [], ◌∷◌}
use mathlib.Core.Option.{none, some}
use native.Mathlib.Omega.{arith}
use lib.ListN.{length, get_or, get_elem?, drop, length-append}
use lib.Dec.{eqb}
use Rattle.access.specs.Le.{le16, le64}
use Rattle.prelude.specs.Base.{or_else, is_some, when◌then◌else◌}
use Rattle.definition.specs.Refusals.{refusal_number, too_many_labels}
use Rattle.definition.specs.Operations.{Operation, operation_number}
use Rattle.definition.specs.Value.{kind_number, Value, constant, SemanticAction, operation_of}
use Rattle.definition.specs.Ast.{Section, JumpLabel, BranchDst, BranchHint, Statement, Macro}
use Rattle.definition.specs.SectionFile.{parsed, jump_label, branch_dst, statement}
use Rattle.definition.specs.Sizes as sizes
use Rattle.definition.specs.Sizes.{Sizing, at}
use Rattle.definition.specs.Walk as walks
use Rattle.definition.specs.Walk.{ExprValue, Label, State, Env, Outcome, done, stopped, on, with_sizing, with_action}
use Rattle.definition.specs.Scope as scope
use Rattle.definition.specs.Scope.{Meaning, means, wrong, inner_meaning, meaning_of}
use Rattle.definition.specs.Expressions as expressions
use Rattle.definition.specs.Statements as d
use Rattle.definition.specs.ActionList.{or_none, places_label, labels_placed}
use Rattle.definition.proofs.Openers.{base_opens, operations_opens, sizes_opens}
use Rattle.list_pushes.specs.declared.push.State.{State as WordState}
use Rattle.list_pushes.specs.declared.push.Env.{Env as WordEnv}
use Rattle.list_values.specs.Values.{absent, no_output}
use Rattle.list_pushes.specs.Pushes.{PushedOut, push_op}
use Rattle.file_refinement.proofs.Inversion.{Begun, jump-begun, jump_name_at, jump_integer_at, hints, direct_at, indirect_at, branch-label_at, branch_dst_begun, branch_at, cond_branch_at, label_at}
use Rattle.list_refinement.specs.Encoding.{enc_v, Sound, SoundAction, first_of, second_of, output_of}
use Rattle.list_refinement.proofs.Seen.{seen_pushed, outcome}
use Rattle.list_refinement.proofs.Pushes.{push-op_is, push-op-done, Stands}
use Rattle.stmt_walk.specs.Outcomes.{Walk}
use Rattle.stmt_walk.specs.Walks.{step_pushed, Walked, walked, beside_p, stop, pushed_then}
use Rattle.stmt_branches.specs.Labels.{get_or_insert_label, on_label, resolve_label, labels_after}
use Rattle.stmt_branches.specs.Branches.{push_label, label_statement, branch_label, label_branch, jump_value, after_jump, jump_to, jump_meant, jump, resolve_branch, branch, cond_branch}
use Rattle.expr_terms.specs.Answers.{after}
use Rattle.expr_resolver.specs.Expressions.{expr_value, resolve_expr}
use Rattle.expr_refinement.proofs.Encodings.{each_last, placed-last, stood_more}
use Rattle.expr_refinement.proofs.Answers.{acts, temps, word}
use Rattle.expr_refinement.proofs.Below.{Spare}
use Rattle.expr_refinement.proofs.Scopes.{meaning-sound, ident_is}
use Rattle.expr_refinement.proofs.Positions.{drop_same}
use Rattle.expr_refinement.proofs.Expressions.{after_is}
use Rattle.expr_refinement.proofs.Pushing.{push-op_halts, last_halts}
use Rattle.expr_refinement.proofs.Reading.{constant-sound}
use Rattle.stmt_refinement.proofs.Views.{seen_step, begun_in, pushed_seen, map_seen, Goes, step_pushed_lem}
use Rattle.stmt_refinement.proofs.Operations.{no_output_lem}
use Rattle.stmt_refinement.proofs.Jumps.{direct_is, indirect_is}
use Rattle.stmt_refinement.proofs.Given.{operand_of_lem}
use Rattle.stmt_refinement.proofs.Ends.{jump_name_ends, jump_integer_ends, label_dst_ends, starts, branch_ends, cond_branch_ends, label_ends}
use Rattle.stmt_refinement.proofs.Steps.{Steps}
use Rattle.stmt_refinement.proofs.Stepping.{steps_seen, steps-operand, steps_goes, steps_then}
use Rattle.stmt_refinement.proofs.Labelling.{Labelled, get_or_insert, Placed, resolve-label, Relabels, labels_beside, relabelled, relabels_stand, relabels_framed}
use Rattle.list_refinement.specs.RuleKinds.{kind_of}
use Rattle.expr_refinement.specs.Encoding.{enc_x, SoundX, op_action, count, enc_m, SoundM}
use Rattle.stmt_refinement.specs.Standing.{Beside, beside, Given, walk_of, Standing, Framed}

-- a label has no rule for sizes
label_unsized : (sec : Section) (n : ℕ) (z : Sizing) → sizes.update_operand_sizes sec false (op_action Operation.PcodeLabel n [] none) z ≡ (op_action Operation.PcodeLabel n [] none, z)
unfolding sizes_opens
label_unsized sec n z = refl

-- an operation that was pushed, as a step
push-steps : (front tail rest : List ℕ) (e : Env) (x : PushedOut) (o : Outcome SemanticAction) (next : ℕ) (w : Walk) → seen_pushed x ≡ outcome front tail rest (λ _. tt {0}) o
    → seen_step (begun_in w) (step_pushed x (pushed_then next w)) ≡ outcome front tail rest (λ (_ : Unit {0}). (next, beside w)) (on e o λ _ e1 st1. done (tt {0}) st1)
push-steps front tail rest e x o next w h = pushed_seen x next w ∙ ap (map_seen (λ _. (next, beside w))) h ∙ go o
  where
    go : (o : Outcome SemanticAction) → map_seen {B = ℕ × Beside} (λ _. (next, beside w)) (outcome front tail rest (λ _. tt {0}) o) ≡ outcome front tail rest (λ (_ : Unit {0}). (next, beside w)) (on e o λ _ e1 st1. done (tt {0}) st1)
    go (done a st) = unfold map_seen outcome on in refl
    go (stopped r ordinal errors) = unfold map_seen outcome on in refl

pushed_from : (e : Env) (o : Outcome SemanticAction) (u : State) → on e o (λ _ e1 st1. done (tt {0}) st1) ≡ done tt u → (a : SemanticAction) × (o ≡ done a u)
unfolding on
pushed_from e (done a st) u q = let k : st ≡ u = cc in (a, rw k)
pushed_from e (stopped r ordinal errors) u q = let z : ◌≡◌ {A = ℕ} 0 1 = cc in absurd (omega arith)

module _ (s t : List ℕ) (e : Env) (front tail rest : List ℕ) (we : WordEnv) (given : Given s t e front tail rest we) (spare : ℕ) (room : Spare spare tail) (p : List ℕ) where
  abbrev A : State → List ℕ
  A st = acts e.section front tail rest st

  abbrev M : State → List ℕ
  M st = temps e.section front tail rest st

  abbrev W : State → WordState
  W st = word e.section front tail rest st

  abbrev one_placed : Beside → Beside
  one_placed c = record { labels = c.labels; placed = c.placed + 1; statements = c.statements; export = c.export }

  abbrev placing : ℕ → SemanticAction
  placing id = op_action Operation.PcodeLabel id [] none

  module _ (q : List ℕ) (c : Beside) (st : State) (stand : Standing t e tail rest we spare q c st) (id next : ℕ) where
    places : labels_placed (with_action (placing id) st).actions ≡ labels_placed st.actions + 1
    places = placed-last st.actions (placing id) ∙ (unfold places_label operation_of operations_opens base_opens in refl)

    standing_placed : 24 * length (with_action (placing id) st).actions ≤ length tail → Standing t e tail rest we spare q (one_placed c) (with_action (placing id) st)
    standing_placed long = let f = stand.stood in let n = length-append st.actions (placing id ∷ []) in record {
      stood = record {
        actions = long;
        temporaries = f.temporaries;
        sizes = f.sizes;
        errors = omega (arith, f.errors);
        sound = each_last _ st.actions (placing id) f.sound (record { inputs = tt; output = tt });
        params = f.params;
        mapping = f.mapping;
      };
      scoped = record { params = stand.scoped.params; counted = stand.scoped.counted; locals = stand.scoped.locals };
      labelled = stand.labelled;
      labels = stand.labels;
      few = stand.few;
      statements = stand.statements;
      export = stand.export;
      export_sound = stand.export_sound;
      long = stand.long;
    }

    framed_placed : Framed c st (one_placed c) (with_action (placing id) st)
    framed_placed = record { labels = omega arith; temporaries = omega arith }

    label_same : Stands tail rest st → SoundAction e.section (count st) (placing id) → length st.sizing.errors + 3 < 2 ^ 64
        → seen_pushed (push_op s t (A st) (M st) we 62 id 0 no_output absent absent (W st)) ≡ outcome front tail rest (λ (_ : SemanticAction). tt {0}) (walks.push_op Operation.PcodeLabel id [] none e st)
    unfolding operation_number first_of second_of output_of kind_of
    label_same stands k l = push-op_is e st front tail rest given.lent stands s t given.sizes we given.pointer Operation.PcodeLabel id [] (omega arith) none k tt l

    -- the action that places a label
    label-pushed : (z : WordState) → z.sizing.begun ≡ or_none st.sizing.begun
        → Steps t e front tail rest we spare 1 c st next (beside_p q (step_pushed (push_op s t (A st) (M st) we 62 id 0 no_output absent absent (W st)) (pushed_then next (walk_of (one_placed c) z)))) (walks.op_no_output Operation.PcodeLabel id [] e st)
    unfolding walks.op_no_output
    label-pushed z begun =
        let f = stand.stood in
        let stands : Stands tail rest st = record { actions = f.actions; temporaries = f.temporaries; sizes = f.sizes } in
        let k : SoundAction e.section (count st) (placing id) = record { inputs = tt; output = tt } in
        let l : length st.sizing.errors + 3 < 2 ^ 64 = (let a = f.errors in let b = f.actions in omega arith) in
        steps_seen t e front tail rest we spare 1 c st next q (one_placed c) z.sizing.begun _ _ begun
        (push-steps front tail rest e (push_op s t (A st) (M st) we 62 id 0 no_output absent absent (W st)) (walks.push_op Operation.PcodeLabel id [] none e st) next (walk_of (one_placed c) z)
        (label_same stands k l))
        (last_halts e st (walks.push_op Operation.PcodeLabel id [] none e st) (λ _. tt {0}) (push-op_halts e st Operation.PcodeLabel id [] none)) refl
        λ u j.
        let a = pushed_from e (walks.push_op Operation.PcodeLabel id [] none e st) u j in
        let g = push-op-done e st front tail rest given.lent stands s t given.sizes we given.pointer Operation.PcodeLabel id [] (omega arith) none k (unfold kind_of in tt) l a.0 u a.1 in
        let h : u ≡ with_action (placing id) st = g.1 ∙ ap (λ (y : SemanticAction × Sizing). with_action y.0 (with_sizing y.1 st)) (label_unsized e.section id st.sizing) in
        subst (λ (y : State). Standing t e tail rest we spare q (one_placed c) y × Framed c st (one_placed c) y × (labels_placed y.actions ≡ labels_placed st.actions + 1)) (sym h)
        (standing_placed (subst (λ (y : State). 24 * length y.actions ≤ length tail) h g.2.actions), framed_placed, places)

  module _ (b : Beside) (room64 : b.placed + 1 < 2 ^ 64) (st : State) (stand : Standing t e tail rest we spare p b st) where
    abbrev Stepping : ℕ → ℕ → Walked → Outcome (Unit {0}) → Type 0
    Stepping placed next x o = Steps t e front tail rest we spare placed b st next x o

    placed_step : (id next : ℕ) (q : List ℕ) (labels : List (ℕ × Label)) (n m : ℕ) → labels_after id b.labels ≡ n → Relabels t e p tail rest we spare b st stand q labels n m
        → Stepping 1 next (beside_p q (push_label s t (A st) (M st) we id next (walk_of b (W st)))) (walks.op_no_output Operation.PcodeLabel id [] e (relabelled t e p tail rest we spare b st stand labels m))
    unfolding push_label
    placed_step id next q labels n m k r =
        let more : (b.placed + 1) % 2 ^ 64 ≡ b.placed + 1 = omega arith in
        let u : State = relabelled t e p tail rest we spare b st stand labels m in
        let c : Beside = labels_beside t e p tail rest we spare b st stand n b.placed in
        rw (k, more)
        (steps_then t e front tail rest we spare 0 1 1 b st c u next _ _ (relabels_framed t e p tail rest we spare b st stand q labels n m b.placed r) refl (omega arith) (omega arith) refl
        (label-pushed q c u (relabels_stand t e p tail rest we spare b st stand q labels n m b.placed r) id next (W st) refl))

    pub label-steps : (pos : ℕ) → le16 s (pos + 1) < 1024 → Stepping 1 (after pos 3) (label_statement s t p (A st) (M st) we pos (walk_of b (W st))) (on e (scope.resolve_label (le16 s (pos + 1)) e st) λ id. walks.op_no_output Operation.PcodeLabel id [])
    unfolding label_statement
    label-steps pos known = go (resolve-label t e p tail rest we spare b st stand (le16 s (pos + 1)) known)
      where
        go : Placed t e p tail rest we spare b st stand (le16 s (pos + 1)) known (resolve_label p (le16 s (pos + 1)) b.labels) (scope.resolve_label (le16 s (pos + 1)) e st)
            → Stepping 1 (after pos 3) (on_label (resolve_label p (le16 s (pos + 1)) b.labels) (λ id q. beside_p q (push_label s t (A st) (M st) we id (after pos 3) (walk_of b (W st)))) (λ n q. walked (stop n (walk_of b (W st))) q (A st) (M st)))
            (on e (scope.resolve_label (le16 s (pos + 1)) e st) λ id. walks.op_no_output Operation.PcodeLabel id [])
        go (Placed.is id q labels n next o x k r) = rw (o, x) (unfold on_label on in placed_step id (after pos 3) q labels n next k r)
        go (Placed.no r q o x) = rw (o, x) (unfold on_label on in Steps.stops r q (A st) (M st) refl refl)

    -- a branch to a label
    branched_step : (id next : ℕ) (q : List ℕ) (labels : List (ℕ × Label)) (n m : ℕ) → labels_after id b.labels ≡ n → Relabels t e p tail rest we spare b st stand q labels n m → (cond : Value) → Sound e.section (count st) cond → (z : WordState)
        → Stepping 0 next (beside_p q (branch_label s t (A st) (M st) we id (enc_v cond) next (W st) (walk_of b z))) (walks.op_no_output Operation.PcodeBranch id (cond ∷ constant 0 ∷ []) e (relabelled t e p tail rest we spare b st stand labels m))
    unfolding branch_label operation_number first_of second_of kind_of kind_number or_none or_else at is_some
    branched_step id next q labels n m k r cond h z =
        let more : (b.placed + 0) % 2 ^ 64 ≡ b.placed = omega arith in
        let u : State = relabelled t e p tail rest we spare b st stand labels m in
        let c : Beside = labels_beside t e p tail rest we spare b st stand n b.placed in
        let stands = relabels_stand t e p tail rest we spare b st stand q labels n m b.placed r in
        rw (k, more)
        (steps_then t e front tail rest we spare 0 0 0 b st c u next _ _ (relabels_framed t e p tail rest we spare b st stand q labels n m b.placed r) refl (omega arith) (omega arith) refl
        (steps_goes t e front tail rest we spare q c u next _ _ _ stands refl
        (step_pushed_lem e.section front tail rest spare u (push_op s t (A st) (M st) we 61 id 2 no_output (enc_v cond) (enc_v (constant 0)) (W st)) _ next (walk_of c (W st))
        (no_output_lem s t e front tail rest we given.lent given.sizes given.pointer spare u room (stood_more (suc spare) (omega arith) stands.stood) Operation.PcodeBranch id (cond ∷ constant 0 ∷ []) (omega arith) (h, (constant-sound e.section (count st) 0, tt)) refl refl))))

    label-branch : (z : WordState) → z.sizing.begun ≡ or_none st.sizing.begun → (cond : Value) → Sound e.section (count st) cond → (pos : ℕ) → le16 s (pos + 1) < 1024
        → Stepping 0 (after pos 4) (label_branch s t p (A st) (M st) we pos (enc_v cond) (W st) (walk_of b z)) (on e (scope.get_or_insert_label (le16 s (pos + 1)) e st) λ l. walks.op_no_output Operation.PcodeBranch l.id (cond ∷ constant 0 ∷ []))
    unfolding label_branch
    label-branch z begun cond h pos known = go (get_or_insert t e p tail rest we spare b st stand (le16 s (pos + 1)) known)
      where
        go : Labelled t e p tail rest we spare b st stand (le16 s (pos + 1)) known (get_or_insert_label p (le16 s (pos + 1)) b.labels) (scope.get_or_insert_label (le16 s (pos + 1)) e st)
            → Stepping 0 (after pos 4) (on_label (get_or_insert_label p (le16 s (pos + 1)) b.labels) (λ id q. beside_p q (branch_label s t (A st) (M st) we id (enc_v cond) (after pos 4) (W st) (walk_of b z))) (λ n q. walked (stop n (walk_of b z)) q (A st) (M st)))
            (on e (scope.get_or_insert_label (le16 s (pos + 1)) e st) λ l. walks.op_no_output Operation.PcodeBranch l.id (cond ∷ constant 0 ∷ []))
        go (Labelled.is l q labels n next o x k r f) = rw (o, x) (unfold on_label on in branched_step l.id (after pos 4) q labels n next k r cond h z)
        go (Labelled.no o x) = rw (o, x, begun) (unfold on_label on in Steps.stops too_many_labels p (A st) (M st) refl (unfold refusal_number in refl))

    -- What a jump goes to: a name's meaning, or an integer.
    record Jumps (pos : ℕ) (l : JumpLabel) (end : ℕ) : Type 0 where
      meaning : Meaning
      words : jump_value s t p pos we ≡ enc_m meaning
      is : d.jump_value l e st ≡ scope.meant meaning e st
      sound : (x : ExprValue) → meaning ≡ means x → SoundX e.section (count st) x
      behind : after_jump s pos ≡ end

    jumps : (pos : ℕ) (l : JumpLabel) (end : ℕ) → jump_label (le16 s 2) (drop pos s) ≡ parsed l (drop end s) → end ≤ length s → Jumps pos l end
    jumps pos l end reads inside = go (get_or s pos 0) refl begun.known
      where
        begun : Begun s pos 2
        begun = jump-begun s (le16 s 2) pos l (drop end s) reads

        short : pos < 65536
        short = let i = begun.inside in omega (arith, given.short)

        start : pos + 0 ≡ pos
        start = omega arith

        sound_in : (name : ℕ) (known : name < 1024) (y : Meaning) → SoundM e.section (count st) y → (x : ExprValue) → y ≡ means x → SoundX e.section (count st) x
        sound_in name known (means y) h x q = let k : y ≡ x = cc in subst (SoundX e.section (count st)) k h
        sound_in name known (wrong r) h x q = let z : ◌≡◌ {A = ℕ} 0 1 = cc in absurd (omega arith)

        known : le16 s (pos + 1) < le16 s 2 → le16 s (pos + 1) < 1024
        known h = omega (arith, given.holds.limits.names)

        name_words : get_or s pos 0 ≡ 0 → le16 s (pos + 1) < 1024 → jump_value s t p pos we ≡ enc_m (meaning_of e.section (inner_meaning e.section st.scope (le16 s (pos + 1))) (le16 s (pos + 1)))
        name_words c known = unfold jump_value in rw (start, c) (ident_is s t e p we given.holds st stand.scoped (le16 s (pos + 1)) known)

        integer_words : get_or s pos 0 ≡ 1 → jump_value s t p pos we ≡ enc_m (means (ExprValue.Const (le64 s (pos + 1)) (some (le16 s (pos + 9)))))
        integer_words c = unfold jump_value enc_m enc_x or_none or_else in rw (start, c, after_is pos 1 short (omega arith))

        small : le16 s (pos + 9) < 1025 → SoundX e.section (count st) (ExprValue.Const (le64 s (pos + 1)) (some (le16 s (pos + 9))))
        small h = unfold or_else in omega arith

        go : (n : ℕ) → get_or s pos 0 ≡ n → n < 2 → Jumps pos l end
        go zero c h =
            let i = jump_name_at s (le16 s 2) pos l (drop end s) c reads in
            record {
              meaning = meaning_of e.section (inner_meaning e.section st.scope (le16 s (pos + 1))) (le16 s (pos + 1));
              words = name_words c (known i.name_below);
              is = rw i.is (unfold d.jump_value scope.resolve_ident scope.meaning on in refl);
              sound = sound_in (le16 s (pos + 1)) (known i.name_below) _ (meaning-sound e.section tail rest spare st (le16 s (pos + 1)) given.ranges stand.stood);
              behind = unfold after_jump in rw (start, c) (after_is pos 3 short (omega arith) ∙ sym (jump_name_ends s (le16 s 2) pos l end reads inside c));
            }
        go (suc zero) c h =
            let i = jump_integer_at s (le16 s 2) pos l (drop end s) c reads in
            record {
              meaning = means (ExprValue.Const (le64 s (pos + 1)) (some (le16 s (pos + 9))));
              words = integer_words c;
              is = rw i.is (unfold d.jump_value scope.meant in refl);
              sound = λ x z. let k : ExprValue.Const (le64 s (pos + 1)) (some (le16 s (pos + 9))) ≡ x = cc in subst (SoundX e.section (count st)) k (small i.size_below);
              behind = unfold after_jump in rw (start, c) (after_is pos 11 short (omega arith) ∙ sym (jump_integer_ends s (le16 s 2) pos l end reads inside c));
            }
        go (suc (suc n)) c h = absurd (omega arith)

    module _ (z : WordState) (begun : z.sizing.begun ≡ or_none st.sizing.begun) (cond : Value) (cond-sound : Sound e.section (count st) cond) (pos : ℕ) (at-hint : ℕ) (inside : at-hint ≤ length s) (hint : BranchHint) (is-hint : get_or s (at-hint + 0) 0 ≡ d.hint_number hint) where
      -- directly or indirectly, to what was meant
      jump_to_lem : (code : ℕ) (k : ExprValue → walks.Walk (Unit {0})) (y : Meaning) → ((x : ExprValue) → y ≡ means x → SoundX e.section (count st) x)
          → ((x : ExprValue) → SoundX e.section (count st) x → Goes e.section front tail rest spare st (after at-hint 1) b z.sizing.begun (jump_to code s t (A st) (M st) we (enc_x x) (enc_v cond) at-hint (W st) (walk_of b z)) (k x e st))
          → Stepping 0 (after at-hint 1) (beside_p p (jump_meant (enc_m y) code s t (A st) (M st) we (enc_v cond) at-hint (W st) (walk_of b z))) (on e (scope.meant y e st) k)
      jump_to_lem code k (means x) h f = unfold jump_meant enc_m scope.meant on in steps_goes t e front tail rest we spare p b st (after at-hint 1) z.sizing.begun _ (k x e st) stand begun (f x (h x refl))
      jump_to_lem code k (wrong r) h f = unfold jump_meant enc_m scope.meant on beside_p in rw begun (Steps.stops r p (A st) (M st) refl refl)

      jump-steps : (code : ℕ) → get_or s (pos + 0) 0 ≡ code → (k : ExprValue → walks.Walk (Unit {0})) (l : JumpLabel) → pos < 65536 → Jumps (pos + 1) l at-hint
          → ((x : ExprValue) → SoundX e.section (count st) x → Goes e.section front tail rest spare st (after at-hint 1) b z.sizing.begun (jump_to code s t (A st) (M st) we (enc_x x) (enc_v cond) at-hint (W st) (walk_of b z)) (k x e st))
          → Stepping 0 (after at-hint 1) (beside_p p (jump s t p (A st) (M st) we pos (enc_v cond) (W st) (walk_of b z))) (on e (d.jump_value l e st) k)
      unfolding jump
      jump-steps code c k l h j f = rw (c, after_is pos 1 h (omega arith), j.words, j.is, j.behind) (jump_to_lem code k j.meaning j.sound f)

      direct-steps : get_or s (pos + 0) 0 ≡ 0 → (l : JumpLabel) → pos < 65536 → Jumps (pos + 1) l at-hint → Stepping 0 (after at-hint 1) (beside_p p (jump s t p (A st) (M st) we pos (enc_v cond) (W st) (walk_of b z))) (d.resolve_branch cond (BranchDst.Direct l) hint e st)
      unfolding d.resolve_branch jump_to
      direct-steps c l h j =
          jump-steps 0 c (λ x e1 st1. on e1 (d.direct_address x e1 st1) λ address. walks.op_no_output Operation.Branch (d.hint_number hint) (cond ∷ address ∷ [])) l h j
          (λ x k. direct_is s t e front tail rest we given spare room (walk_of b z) at-hint hint is-hint st stand.stood x cond k cond-sound)

      indirect-steps : get_or s (pos + 0) 0 ≡ 1 → (l : JumpLabel) → pos < 65536 → Jumps (pos + 1) l at-hint → Stepping 0 (after at-hint 1) (beside_p p (jump s t p (A st) (M st) we pos (enc_v cond) (W st) (walk_of b z))) (d.resolve_branch cond (BranchDst.Indirect l) hint e st)
      unfolding d.resolve_branch jump_to
      indirect-steps c l h j =
          jump-steps 1 c (λ x e1 st1. on e1 (expressions.read_value x none e1 st1) λ address. walks.op_no_output Operation.Branch (d.hint_number hint) (cond ∷ address ∷ [])) l h j
          (λ x k. indirect_is s t e front tail rest we given spare room (walk_of b z) at-hint hint is-hint st stand.stood x cond k cond-sound)

      -- a branch that stands at a position
      branch-steps : (dst : BranchDst) → branch_dst (le16 s 2) (drop pos s) ≡ parsed dst (drop at-hint s) → Stepping 0 (after at-hint 1) (resolve_branch s t p (A st) (M st) we pos (enc_v cond) (W st) (walk_of b z)) (d.resolve_branch cond dst hint e st)
      unfolding resolve_branch d.resolve_branch
      branch-steps dst reads = go (get_or s pos 0) refl begins.known
        where
          begins : Begun s pos 3
          begins = branch_dst_begun s (le16 s 2) pos dst (drop at-hint s) reads

          short : pos < 65536
          short = let i = begins.inside in omega (arith, given.short)

          start : pos + 0 ≡ pos
          start = omega arith

          known : le16 s (pos + 1) < le16 s 2 → le16 s (pos + 1) < 1024
          known h = omega (arith, given.holds.limits.names)

          go : (n : ℕ) → get_or s pos 0 ≡ n → n < 3
              → Stepping 0 (after at-hint 1) (when eqb (get_or s (pos + 0) 0) 2 then label_branch s t p (A st) (M st) we pos (enc_v cond) (W st) (walk_of b z) else beside_p p (jump s t p (A st) (M st) we pos (enc_v cond) (W st) (walk_of b z))) (d.resolve_branch cond dst hint e st)
          go zero c h =
              let i = direct_at s (le16 s 2) pos dst (drop at-hint s) c reads in
              let q = drop_same s at-hint i.label-end inside i.label_inside i.rest in
              rw (i.is, start, c) (direct-steps (rw start c) i.label short (jumps (pos + 1) i.label at-hint (i.label-reads ∙ ap (λ (n : ℕ). parsed i.label (drop n s)) (sym q)) inside))
          go (suc zero) c h =
              let i = indirect_at s (le16 s 2) pos dst (drop at-hint s) c reads in
              let q = drop_same s at-hint i.label-end inside i.label_inside i.rest in
              rw (i.is, start, c) (indirect-steps (rw start c) i.label short (jumps (pos + 1) i.label at-hint (i.label-reads ∙ ap (λ (n : ℕ). parsed i.label (drop n s)) (sym q)) inside))
          go (suc (suc zero)) c h =
              let i = branch-label_at s (le16 s 2) pos dst (drop at-hint s) c reads in
              let q = label_dst_ends s (le16 s 2) pos dst at-hint reads inside c in
              let r : after at-hint 1 ≡ after pos 4 = after_is at-hint 1 (omega (arith, given.short)) (omega arith) ∙ (omega arith) ∙ sym (after_is pos 4 short (omega arith)) in
              rw (i.is, start, c, r) (label-branch z begun cond cond-sound pos (known i.name_below))
          go (suc (suc (suc n))) c h = absurd (omega arith)

hint_number_lem : (n : ℕ) (hint : BranchHint) → get_elem? hints n ≡ some hint → n ≡ d.hint_number hint
unfolding hints d.hint_number
hint_number_lem zero hint h = let k : BranchHint.Jump ≡ hint = cc in rw (← k)
hint_number_lem (suc zero) hint h = let k : BranchHint.Call ≡ hint = cc in rw (← k)
hint_number_lem (suc (suc zero)) hint h = let k : BranchHint.Return ≡ hint = cc in rw (← k)
hint_number_lem (suc (suc (suc n))) hint h = let z : ◌≡◌ {A = ℕ} 0 1 = cc in absurd (omega arith)

-- The three statements at their positions.
module _ (s t : List ℕ) (e : Env) (p front tail rest : List ℕ) (we : WordEnv) (given : Given s t e front tail rest we) (spare : ℕ) (room : Spare spare tail) (b : Beside) (room64 : b.placed + 1 < 2 ^ 64)
    (from : State) (stand : Standing t e tail rest we spare p b from) (enter : ℕ → Macro → List ExprValue → walks.Walk (Unit {0}))
    (pos : ℕ) (x : Statement) (next : ℕ) (reads : statement (le16 s 2) (drop pos s) ≡ parsed x (drop next s)) (inside : next ≤ length s) where
  abbrev A2 : List ℕ
  A2 = acts e.section front tail rest from

  abbrev M2 : List ℕ
  M2 = temps e.section front tail rest from

  abbrev W2 : WordState
  W2 = word e.section front tail rest from

  abbrev Done : ℕ → Walked → Type 0
  Done placed y = Steps t e front tail rest we spare placed b from next y (d.resolve_statement enter x e from)

  start : pos + 1 ≤ length s
  start = starts s (le16 s 2) pos x next reads inside

  short : pos < 65536
  short = let i = start in omega (arith, given.short)

  hint_at : (end : ℕ) (hint : BranchHint) → get_elem? hints (get_or s end 0) ≡ some hint → get_or s (end + 0) 0 ≡ d.hint_number hint
  hint_at end hint h = let z : end + 0 ≡ end = omega arith in rw z (hint_number_lem (get_or s end 0) hint h)

  moved : (placed end : ℕ) (y : Walked) (o : Outcome (Unit {0})) → next ≡ end + 1 → end ≤ length s → Steps t e front tail rest we spare placed b from (after end 1) y o → Steps t e front tail rest we spare placed b from next y o
  moved placed end y o q l h = subst (λ (n : ℕ). Steps t e front tail rest we spare placed b from n y o) (after_is end 1 (omega (arith, given.short)) (omega arith) ∙ sym q) h

  pub branch_case : get_or s pos 0 ≡ 8 → Done 0 (branch s t p A2 M2 we pos (walk_of b W2))
  unfolding branch d.resolve_statement kind_number or_none or_else
  branch_case c =
      let i = branch_at s (le16 s 2) pos x (drop next s) c reads in
      let q = branch_ends s (le16 s 2) pos x next reads inside i.dst i.dst_end i.dst_reads i.dst_inside c in
      rw (i.is, after_is pos 1 short (omega arith)) (moved 0 i.dst_end _ _ q i.dst_inside
      (branch-steps s t e front tail rest we given spare room p b room64 from stand W2 refl (constant 1) (constant-sound e.section (count from) 1) (pos + 1) i.dst_end i.dst_inside i.hint (hint_at i.dst_end i.hint i.hint_is) i.dst i.dst_reads))

  pub cond_branch_case : get_or s pos 0 ≡ 9 → Done 0 (cond_branch s t p A2 M2 we pos (walk_of b W2))
  unfolding cond_branch d.resolve_statement
  cond_branch_case c =
      let i = cond_branch_at s (le16 s 2) pos x (drop next s) c reads in
      let q = cond_branch_ends s (le16 s 2) pos x next reads inside i.cond i.cond_end i.cond_reads i.cond_inside i.dst i.dst_end i.dst_reads i.dst_inside c in
      rw (i.is, after_is pos 1 short (omega arith)) (moved 0 i.dst_end _ _ q i.dst_inside
      (steps-operand t e front tail rest we spare (λ (y : Walked). y) 0 p b from (after i.dst_end 1) W2.sizing.begun stand refl
      (expr_value (resolve_expr 32 s t p we) s t we (pos + 1) A2 M2 W2) (expressions.value_of (expressions.resolve_expr i.cond) e from) i.cond_end _ _ (λ v. d.resolve_branch v i.dst i.hint)
      (operand_of_lem s t e front tail rest we given p spare room (pos + 1) i.cond i.cond_end i.cond_reads i.cond_inside from stand.stood stand.scoped) (λ n a m. refl)
      λ v u r h stand1 begun. branch-steps s t e front tail rest we given spare room p b room64 u stand1 W2 begun v h i.cond_end i.dst_end i.dst_inside i.hint (hint_at i.dst_end i.hint i.hint_is) i.dst i.dst_reads))

  pub label_case : get_or s pos 0 ≡ 10 → Done 1 (label_statement s t p A2 M2 we pos (walk_of b W2))
  unfolding d.resolve_statement
  label_case c =
      let i = label_at s (le16 s 2) pos x (drop next s) c reads in
      let q : after pos 3 ≡ next = after_is pos 3 short (omega arith) ∙ sym (label_ends s (le16 s 2) pos x next reads inside c) in
      let k : le16 s (pos + 1) < 1024 = omega (arith, i.name_below, given.holds.limits.names) in
      rw i.is (subst (λ (n : ℕ). Steps t e front tail rest we spare 1 b from n (label_statement s t p A2 M2 we pos (walk_of b W2)) (on e (scope.resolve_label (le16 s (pos + 1)) e from) λ id. walks.op_no_output Operation.PcodeLabel id [])) q
      (label-steps s t e front tail rest we given spare room p b room64 from stand pos k))
