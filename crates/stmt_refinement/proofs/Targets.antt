-- What a copy is written to: a name that means nothing yet becomes a local, anything else is resolved. And the two
-- statements that write an expression's value, to a new local and to a target.
use Prim.Native.Nat.{ℕ, zero, suc, ◌+◌, ◌≤◌, ◌<◌}
use mathlib.Core.Path.{◌≡◌, refl, sym, ◌∙◌, subst}
use mathlib.Core.Logic.{◌≢◌}
use mathlib.Core.Bool.{Bool, true, false}
use mathlib.Core.List.{List}
use mathlib.Core.Option.{Option, none, some}
use native.Mathlib.Omega.{arith}
use lib.ListN.{length, get_or, drop}
use lib.Dec.{eqb}
use borrow.Author.Tests.{eqb-true, eqb-false, ne_eqb}
use Rattle.access.specs.Le.{le16}
use Rattle.prelude.specs.Base.{or_else, and_then, when◌then◌else◌}
use Rattle.definition.specs.Value.{Value, SemanticAction}
use Rattle.definition.specs.Ast.{PcodeExpr, Statement}
use Rattle.definition.specs.SectionFile.{parsed, expr_within}
use Rattle.definition.specs.Walk.{ExprValue, State, Env, Outcome, done, on}
use Rattle.definition.specs.Scope as scope
use Rattle.definition.specs.Scope.{Meaning, means, wrong, inner_meaning, meaning_of}
use Rattle.definition.specs.Expressions as expressions
use Rattle.definition.specs.Statements as d
use Rattle.definition.specs.ActionList.{or_none}
use Rattle.list_pushes.specs.declared.push.State.{State as WordState}
use Rattle.list_pushes.specs.declared.push.Env.{Env as WordEnv}
use Rattle.list_pushes.specs.Pushes.{on_read}
use Rattle.file_refinement.specs.Holds.{absent_at}
use Rattle.file_refinement.proofs.Inversion.{LocalAssignmentAt, CopyAt}
use Rattle.file_refinement.proofs.Inversion as at
use Rattle.list_refinement.specs.Encoding.{enc_v, actions_in, Sound}
use Rattle.expr_scope.specs.declared.scope.ExprValue.{ExprValue as WordExpr}
use Rattle.expr_terms.specs.Outcomes.{Expr}
use Rattle.expr_terms.specs.Answers.{ExprOut, resolved, on_expr}
use Rattle.expr_scope.specs.Scopes.{named_tmp}
use Rattle.expr_resolver.specs.Expressions.{resolve_expr}
use Rattle.stmt_walk.specs.Walks.{Walked, walked, beside_p, stop}
use Rattle.stmt_simple.specs.Simple.{assign, local_assignment}
use Rattle.stmt_assignments.specs.Copies.{copy_into, target_name, target_size, after_target, new_target, is_wrong, is_new, on_target, beside_a, in_scope, resolve_dst, copy_target, copy_statement}
use Rattle.expr_refinement.proofs.Encodings.{sound_more, x_more}
use Rattle.expr_refinement.proofs.Answers.{acts, temps, word}
use Rattle.expr_refinement.proofs.Below.{Spare}
use Rattle.expr_refinement.proofs.Scopes.{ident_is}
use Rattle.expr_refinement.proofs.Positions.{ident_ends, truncate_ends, begins}
use Rattle.expr_refinement.proofs.Expressions.{after_is, absent-word, small_or}
use Rattle.stmt_refinement.proofs.Views.{on_assoc}
use Rattle.stmt_refinement.proofs.Given.{expression}
use Rattle.stmt_refinement.proofs.ReadInto.{read_to_lem}
use Rattle.stmt_refinement.proofs.Copies.{copy_into_lem}
use Rattle.stmt_refinement.proofs.Steps.{Steps}
use Rattle.stmt_refinement.proofs.Stepping.{steps-expr, steps_goes}
use Rattle.stmt_refinement.proofs.Naming.{declared_in, steps-named, Names}
use Rattle.expr_refinement.specs.Encoding.{enc_x, SoundX, Small, count, enc_m}
use Rattle.stmt_refinement.specs.Standing.{Beside, Given, walk_of, Standing}

module _ (s t : List ℕ) (e : Env) (front tail rest : List ℕ) (we : WordEnv) (given : Given s t e front tail rest we) (spare : ℕ) (room : Spare spare tail) (b : Beside) where
  abbrev Stands : List ℕ → State → Type 0
  Stands p st = Standing t e tail rest we spare p b st

  abbrev Ends : State → ℕ → Walked → Outcome (Unit {0}) → Type 0
  Ends st next x o = Steps t e front tail rest we spare 0 b st next x o

  -- an expression's value, to what is given
  assign-steps : (p : List ℕ) (st : State) → Stands p st → (z : WordState) → z.sizing.begun ≡ or_none st.sizing.begun → (pos : ℕ) (x : PcodeExpr) (next : ℕ) → expr_within (le16 s 2) 32 (drop pos s) ≡ parsed x (drop next s) → next ≤ length s → (to : Value) → Sound e.section (count st) to
      → Ends st next (beside_p p (assign s t p (acts e.section front tail rest st) (temps e.section front tail rest st) we pos (enc_v to) (word e.section front tail rest st) (walk_of b z))) (on e (expressions.resolve_expr x e st) λ y. d.read_to y to)
  unfolding assign
  assign-steps p st stand z q pos x next reads inside to g =
      steps-expr t e front tail rest we spare (beside_p p) 0 p b st next z.sizing.begun stand q
      (resolve_expr 32 s t p we pos (acts e.section front tail rest st) (temps e.section front tail rest st) (word e.section front tail rest st)) (expressions.resolve_expr x e st) next _ _ (λ y. d.read_to y to)
      (expression s t e front tail rest we given p spare room pos x next reads inside st stand.stood stand.scoped) (λ n a m. unfold beside_p in refl)
      λ y u r h stand1 q1. steps_goes t e front tail rest we spare p b u next z.sizing.begun _ (d.read_to y to e u) stand1 q1
      (read_to_lem s t e front tail rest we given spare room (walk_of b z) next u r.stood y to h (sound_more e.section (count st) (count u) r.later.temporaries to g))

  -- a local declared and assigned
  module _ (p : List ℕ) (from : State) (stand : Stands p from) where
    abbrev A : List ℕ
    A = acts e.section front tail rest from

    abbrev M : List ℕ
    M = temps e.section front tail rest from

    abbrev W : WordState
    W = word e.section front tail rest from

    module _ (name : ℕ) (known : name < 1024) (size : Option ℕ) (small : Small size) where
      abbrev after1 : List ℕ
      after1 = declared_in s t e p front tail rest we given spare b from stand name known size small

      assigned_steps : (pos : ℕ) (x : PcodeExpr) (next : ℕ) → expr_within (le16 s 2) 32 (drop pos s) ≡ parsed x (drop next s) → next ≤ length s
          → Ends from next (on_read (named_tmp t p M we name (or_none size) W) (λ v st1 q u. beside_p q (assign s t q A u we pos v st1 (walk_of b W))) (λ n q u. walked (stop n (walk_of b W)) q A u))
          (on e (scope.named_tmp name size e from) λ to e1 st1. on e1 (expressions.resolve_expr x e1 st1) λ y. d.read_to y to)
      assigned_steps pos x next reads inside =
          steps-named s t e p front tail rest we given spare b from stand name known size small 0 next W.sizing.begun refl (λ (y : Walked). y)
          (λ v st1 q u. beside_p q (assign s t q A u we pos v st1 (walk_of b W))) (λ n q u. walked (stop n (walk_of b W)) q A u) (λ to e1 st1. on e1 (expressions.resolve_expr x e1 st1) λ y. d.read_to y to) (λ n q m. (A, refl))
          λ v u j q. subst (λ (y : List SemanticAction). Ends u next (beside_p after1 (assign s t after1 (actions_in front tail y) (temps e.section front tail rest u) we pos (enc_v v) (word e.section front tail rest u) (walk_of b W))) (on e (expressions.resolve_expr x e u) λ y. d.read_to y v)) j.actions
          (assign-steps after1 u j.stands W q pos x next reads inside v j.sound)

    pub assignment_steps : (pos : ℕ) → pos ≤ length s → (x : Statement) (u : List ℕ) (i : LocalAssignmentAt s (le16 s 2) pos x u)
        → Ends from i.expr-end (local_assignment s t p A M we pos (walk_of b W)) (on e (scope.named_tmp (le16 s (pos + 1)) (absent_at s (pos + 3)) e from) λ to e1 st1. on e1 (expressions.resolve_expr i.expr e1 st1) λ y. d.read_to y to)
    unfolding local_assignment
    assignment_steps pos inside x u i =
        let l = given.holds.limits.names in
        rw (after_is pos 5 (omega (arith, given.short)) (omega arith))
        (subst (λ (z : ℕ). Ends from i.expr-end (on_read (named_tmp t p M we (le16 s (pos + 1)) z W) (λ v st1 q u. beside_p q (assign s t q A u we (pos + 5) v st1 (walk_of b W))) (λ n q u. walked (stop n (walk_of b W)) q A u))
        (on e (scope.named_tmp (le16 s (pos + 1)) (absent_at s (pos + 3)) e from) λ to e1 st1. on e1 (expressions.resolve_expr i.expr e1 st1) λ y. d.read_to y to)) (absent-word s (pos + 3))
        (assigned_steps (le16 s (pos + 1)) (omega (arith, i.name_below)) (absent_at s (pos + 3)) (small_or (absent_at s (pos + 3)) i.size_below) (pos + 5) i.expr i.expr-end i.expr-reads i.expr-inside))

-- The name of a target, with its size and the position behind it, or none.
pub data TargetAt (s : List ℕ) (pos : ℕ) (to : PcodeExpr) (next : ℕ) : Type 0 where
  bare : (name : ℕ) (size : Option ℕ) → d.target_name to ≡ some (name, size) → target_name s pos ≡ name → target_size s pos ≡ or_none size → after_target s pos ≡ next → name < le16 s 2 → Small size → TargetAt s pos to next
  other : d.target_name to ≡ none → target_name s pos ≡ 65535 → TargetAt s pos to next

-- an expression of another code is no name, and none truncated
no_name : (s : List ℕ) (m deep pos : ℕ) (x : PcodeExpr) (u : List ℕ) → expr_within m (suc deep) (drop pos s) ≡ parsed x u → (n : ℕ) → get_or s pos 0 ≡ suc n → suc n < 9 → (d.as_name x ≡ none) × (n ≢ 2 → d.target_name x ≡ none)
unfolding d.as_name d.target_name
no_name s m deep pos x u h zero c l = rw (at.integer_at s m deep pos x u c h).is (refl, λ _. refl)
no_name s m deep pos x u h (suc zero) c l = rw (at.address_of_at s m deep pos x u c h).is (refl, λ _. refl)
no_name s m deep pos x u h (suc (suc zero)) c l = rw (at.truncate_at s m deep pos x u c h).is (refl, λ q. absurd (q refl))
no_name s m deep pos x u h (suc (suc (suc zero))) c l = rw (at.slice_bits_at s m deep pos x u c h).is (refl, λ _. refl)
no_name s m deep pos x u h (suc (suc (suc (suc zero)))) c l = rw (at.op_at s m deep pos x u c h).is (refl, λ _. refl)
no_name s m deep pos x u h (suc (suc (suc (suc (suc zero))))) c l = rw (at.deref_at s m deep pos x u c h).is (refl, λ _. refl)
no_name s m deep pos x u h (suc (suc (suc (suc (suc (suc zero)))))) c l = rw (at.constant_pool_at s m deep pos x u c h).is (refl, λ _. refl)
no_name s m deep pos x u h (suc (suc (suc (suc (suc (suc (suc zero))))))) c l = rw (at.call_at s m deep pos x u c h).is (refl, λ _. refl)
no_name s m deep pos x u h (suc (suc (suc (suc (suc (suc (suc (suc n)))))))) c l = absurd (omega arith)

module _ (s : List ℕ) (pos : ℕ) (to : PcodeExpr) (next : ℕ) (reads : expr_within (le16 s 2) 32 (drop pos s) ≡ parsed to (drop next s)) (inside : next ≤ length s) (short : length s ≤ 65280) where
  here : pos + 1 ≤ length s
  here = begins s (le16 s 2) 32 pos to (drop next s) reads

  start : pos + 0 ≡ pos
  start = omega arith

  -- the code of what a target truncates
  part_case : (value : PcodeExpr) (end : ℕ) → expr_within (le16 s 2) 31 (drop (pos + 1) s) ≡ parsed value (drop end s) → end ≤ length s → le16 s end < 1025 → next ≡ end + 2 → get_or s pos 0 ≡ 3 → to ≡ PcodeExpr.Truncate value (le16 s end)
      → (n : ℕ) → get_or s (pos + 1) 0 ≡ n → n < 9 → TargetAt s pos to next
  unfolding target_name target_size after_target d.target_name and_then or_none or_else
  part_case value end part within small behind c is zero k l =
      let i = at.ident_at s (le16 s 2) 30 (pos + 1) value (drop end s) k part in
      let j = ident_ends s (le16 s 2) 30 (pos + 1) value end part within k in
      let q : pos + 1 + 1 ≡ pos + 2 = omega arith in
      let r : end ≡ pos + 4 = omega arith in
      bare (le16 s (pos + 2)) (some (le16 s (pos + 4))) (rw (is, i.is, q, r) (unfold d.as_name in refl)) (rw (start, c, k)) (rw (start, c)) (rw (start, c) (after_is pos 6 (omega (arith, here)) (omega arith) ∙ omega arith))
      (rw q at i.name_below) (let g : le16 s (pos + 4) < 1025 = rw r at small in omega arith)
  part_case value end part within small behind c is (suc n) k l = other (rw (is, (no_name s (le16 s 2) 30 (pos + 1) value (drop end s) part n k l).0)) (rw (start, c, k, ne_eqb (suc n) 0 (λ z. omega arith)))

  code_case : (n : ℕ) → get_or s pos 0 ≡ n → n < 9 → TargetAt s pos to next
  unfolding target_name target_size after_target d.target_name or_none or_else
  code_case zero c l =
      let i = at.ident_at s (le16 s 2) 31 pos to (drop next s) c reads in
      let j = ident_ends s (le16 s 2) 31 pos to next reads inside c in
      bare (le16 s (pos + 1)) none (rw i.is) (rw (start, c)) (rw (start, c)) (rw (start, c) (after_is pos 3 (omega (arith, here)) (omega arith) ∙ sym j)) i.name_below (omega arith)
  code_case (suc n) c l = go (eqb n 2) refl
    where
      go : (z : Bool) → eqb n 2 ≡ z → TargetAt s pos to next
      go true q =
          let k : suc n ≡ 3 = (let r = eqb-true n 2 q in omega arith) in
          let i = at.truncate_at s (le16 s 2) 31 pos to (drop next s) (c ∙ k) reads in
          let j = truncate_ends s (le16 s 2) 31 pos to next reads inside i.value i.value_end i.value_reads i.value_inside (c ∙ k) in
          part_case i.value i.value_end i.value_reads i.value_inside i.size_below j (c ∙ k) i.is (get_or s (pos + 1) 0) refl (at.expr-begun s (le16 s 2) 30 (pos + 1) i.value (drop i.value_end s) i.value_reads).known
      go false q =
          let k = eqb-false n 2 q in
          other ((no_name s (le16 s 2) 31 pos to (drop next s) reads n c l).1 k) (unfold target_name in rw (start, c, ne_eqb (suc n) 0 (λ z. omega arith), ne_eqb (suc n) 3 (λ z. k (omega arith))))

  pub target_at : TargetAt s pos to next
  target_at = code_case (get_or s pos 0) refl (at.expr-begun s (le16 s 2) 31 pos to (drop next s) reads).known

-- a target that is resolved leaves the scope's list
in_scope_lem : {A : Type 0} (p : List ℕ) (x : ExprOut) (f : WordExpr → ℕ → WordState → List ℕ → List ℕ → List ℕ → A) (g : ℕ → List ℕ → List ℕ → List ℕ → A)
    → on_target (in_scope p x) f g ≡ on_expr x (λ y end st a m. f y end st p a m) (λ n a m. g n p a m)
unfolding on_target in_scope on_expr
in_scope_lem p (resolved (Expr.Value n y st) a m) f g = refl
in_scope_lem p (resolved (Expr.No n) a m) f g = refl

module _ (s t : List ℕ) (e : Env) (p front tail rest : List ℕ) (we : WordEnv) (given : Given s t e front tail rest we) (spare : ℕ) (room : Spare spare tail) (b : Beside) where
  abbrev Copies : State → ℕ → Walked → Outcome (Unit {0}) → Type 0
  Copies st next x o = Ends s t e front tail rest we given spare room b st next x o

  module _ (st : State) (stand : Stands s t e front tail rest we given spare room b p st) (z : WordState) (begun : z.sizing.begun ≡ or_none st.sizing.begun) (x : ExprValue) (sound : SoundX e.section (count st) x)
      (pos : ℕ) (to : PcodeExpr) (next : ℕ) (reads : expr_within (le16 s 2) 32 (drop pos s) ≡ parsed to (drop next s)) (inside : next ≤ length s) where
    abbrev A2 : List ℕ
    A2 = acts e.section front tail rest st

    abbrev M2 : List ℕ
    M2 = temps e.section front tail rest st

    abbrev W2 : WordState
    W2 = word e.section front tail rest st

    abbrev into : WordExpr → ℕ → WordState → List ℕ → List ℕ → List ℕ → Walked
    into y end st1 q a m = beside_p q (copy_into s t a m we (enc_x x) y end st1 (walk_of b z))

    abbrev refusing : ℕ → List ℕ → List ℕ → List ℕ → Walked
    refusing n q a m = walked (stop n (walk_of b z)) q a m

    -- a target that is resolved
    plain_target_lem : Copies st next (on_target (in_scope p (resolve_expr 32 s t p we pos A2 M2 W2)) into refusing) (on e (on e (expressions.resolve_expr to e st) d.as_destination) (d.copy_into x))
    plain_target_lem =
        rw (in_scope_lem p (resolve_expr 32 s t p we pos A2 M2 W2) into refusing, on_assoc e (expressions.resolve_expr to e st) d.as_destination (d.copy_into x))
        (steps-expr t e front tail rest we spare (λ (y : Walked). y) 0 p b st next z.sizing.begun stand begun
        (resolve_expr 32 s t p we pos A2 M2 W2) (expressions.resolve_expr to e st) next (λ y end st1 a m. into y end st1 p a m) (λ n a m. refusing n p a m) (λ y e1 st1. on e1 (d.as_destination y e1 st1) (d.copy_into x))
        (expression s t e front tail rest we given p spare room pos to next reads inside st stand.stood stand.scoped) (λ n a m. refl)
        λ y u r h stand1 q. steps_goes t e front tail rest we spare p b u next z.sizing.begun _ (on e (d.as_destination y e u) (d.copy_into x)) stand1 q
        (copy_into_lem s t e front tail rest we given spare room (walk_of b z) next u r.stood x y (x_more e.section (count st) (count u) r.later.temporaries x sound) h))

    -- a new local
    new_target_lem : (name : ℕ) → name < 1024 → (size : Option ℕ) → Small size
        → Copies st next (on_target (beside_a A2 (on_read (named_tmp t p M2 we name (or_none size) W2) (λ v st1 q u. resolved (Expr.Value next (WordExpr.Local v) st1) q u) (λ n q u. resolved (Expr.No n) q u))) into refusing)
        (on e (on e (scope.named_tmp name size e st) λ v e1 st1. done (d.Destination.Local v) st1) (d.copy_into x))
    new_target_lem name known size small =
        rw (on_assoc e (scope.named_tmp name size e st) (λ v e1 st1. done (d.Destination.Local v) st1) (d.copy_into x))
        (steps-named s t e p front tail rest we given spare b st stand name known size small 0 next z.sizing.begun begun
        (λ (r : ExprOut). on_target (beside_a A2 r) into refusing)
        (λ v st1 q u. resolved (Expr.Value next (WordExpr.Local v) st1) q u) (λ n q u. resolved (Expr.No n) q u) (λ v e1 st1. on e1 (done (d.Destination.Local v) st1) (d.copy_into x)) (λ n q m. (A2, unfold on_target beside_a in refl))
        λ v u j q. copied v u j q)
      where
        copied : (v : Value) (u : State) (j : Names s t e p front tail rest we given spare b st stand name known size small v u) → z.sizing.begun ≡ or_none u.sizing.begun
            → Copies u next (on_target (beside_a A2 (resolved (Expr.Value next (WordExpr.Local (enc_v v)) (word e.section front tail rest u)) (declared_in s t e p front tail rest we given spare b st stand name known size small) (temps e.section front tail rest u))) into refusing) (on e (done (d.Destination.Local v) u) (d.copy_into x))
        copied v u j q = unfold on_target beside_a in
            subst (λ (y : List SemanticAction). Copies u next (beside_p (declared_in s t e p front tail rest we given spare b st stand name known size small) (copy_into s t (actions_in front tail y) (temps e.section front tail rest u) we (enc_x x) (WordExpr.Local (enc_v v)) next (word e.section front tail rest u) (walk_of b z))) (on e (done (d.Destination.Local v) u) (d.copy_into x))) j.actions
            (steps_goes t e front tail rest we spare (declared_in s t e p front tail rest we given spare b st stand name known size small) b u next z.sizing.begun _ (on e (done (d.Destination.Local v) u) (d.copy_into x)) j.stands q
            (unfold enc_x d.as_destination in copy_into_lem s t e front tail rest we given spare room (walk_of b z) next u j.stands.stood x (ExprValue.Local v) (x_more e.section (count st) (count u) j.framed.temporaries x sound) j.sound))

    pub target_steps : Copies st next (copy_target s t p A2 M2 we (enc_x x) pos W2 (walk_of b z)) (on e (d.resolve_dst to e st) (d.copy_into x))
    unfolding copy_target resolve_dst d.resolve_dst
    target_steps = go (target_at s pos to next reads inside given.short)
      where
        by : (name : ℕ) (known : name < 1024) (size : Option ℕ) → Small size → (y : Meaning)
            → Copies st next (on_target (when is_wrong (enc_m y) then beside_a A2 (on_read (named_tmp t p M2 we name (or_none size) W2) (λ v st1 q u. resolved (Expr.Value next (WordExpr.Local v) st1) q u) (λ n q u. resolved (Expr.No n) q u)) else in_scope p (resolve_expr 32 s t p we pos A2 M2 W2)) into refusing)
            (on e (d.dst_meaning to name size y e st) (d.copy_into x))
        by name known size small (means y) = unfold is_wrong enc_m d.dst_meaning in plain_target_lem
        by name known size small (wrong r) = unfold is_wrong enc_m d.dst_meaning in new_target_lem name known size small

        go : TargetAt s pos to next
            → Copies st next (on_target (when is_new s t p we (target_name s pos) then beside_a A2 (new_target s t p M2 we pos (target_name s pos) W2) else in_scope p (resolve_expr 32 s t p we pos A2 M2 W2)) into refusing)
            (on e (d.dst_named to (d.target_name to) e st) (d.copy_into x))
        go (other q h) = unfold is_new d.dst_named in rw (q, h) plain_target_lem
        go (bare name size q h i j k small) =
            let l = given.holds.limits.names in
            let known : name < 1024 = omega arith in
            unfold is_new new_target d.dst_named scope.meaning on in
            rw (q, h, i, j, ne_eqb name 65535 (λ z. omega arith), ident_is s t e p we given.holds st stand.scoped name known)
            (by name known size small (meaning_of e.section (inner_meaning e.section st.scope name) name))

  -- the source is resolved before the target
  pub copy_steps : (from : State) → Stands s t e front tail rest we given spare room b p from → (pos : ℕ) → pos + 1 ≤ length s → (x : Statement) (u : List ℕ) (i : CopyAt s (le16 s 2) pos x u)
      → Copies from i.to_end (copy_statement s t p (acts e.section front tail rest from) (temps e.section front tail rest from) we pos (walk_of b (word e.section front tail rest from)))
      (on e (expressions.resolve_expr i.from e from) λ y e1 st1. on e1 (d.resolve_dst i.to e1 st1) (d.copy_into y))
  unfolding copy_statement
  copy_steps from stand pos l x u i =
      rw (after_is pos 1 (omega (arith, given.short)) (omega arith))
      (steps-expr t e front tail rest we spare (λ (y : Walked). y) 0 p b from i.to_end (or_none from.sizing.begun) stand refl
      (resolve_expr 32 s t p we (pos + 1) (acts e.section front tail rest from) (temps e.section front tail rest from) (word e.section front tail rest from)) (expressions.resolve_expr i.from e from) i.from_end _ _ (λ y e1 st1. on e1 (d.resolve_dst i.to e1 st1) (d.copy_into y))
      (expression s t e front tail rest we given p spare room (pos + 1) i.from i.from_end i.from_reads i.from_inside from stand.stood stand.scoped) (λ n a m. refl)
      λ y st r h stand1 q. target_steps st stand1 (word e.section front tail rest from) q y h i.from_end i.to i.to_end i.to_reads i.to_inside)
