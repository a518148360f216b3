-- The level below does what expressions need of it: temporaries and pushes are the definition's, and keep a state that
-- the lent words hold.
use Prim.Native.Nat.{ℕ, suc, ◌+◌, ◌*◌, ◌^◌, ◌≤◌, ◌<◌}
use mathlib.Core.Path.{◌≡◌, refl, sym, ◌∙◌, ap, subst}
use mathlib.Core.Bool.{Bool, true, false}
use mathlib.Core.List.{List, [], ◌∷◌, ◌++◌}
use mathlib.Core.Option.{Option, none, some}
use native.Mathlib.Omega.{arith}
use lib.Dec.{leb}
use lib.ListN.{length, length-append}
use borrow.Author.Tests.{leb-true}
use Rattle.prelude.specs.Base as definition
use Rattle.prelude.specs.Base.{or_else, and_then, is_some, all, contains}
use Rattle.definition.specs.Refusals.{list_full, too_many_temporaries}
use Rattle.definition.specs.Operations.{Operation, operation_number, is_op}
use Rattle.definition.specs.Value.{Kind, Value, local, ActionKind, SemanticAction, operation_of}
use Rattle.definition.specs.Ast.{Section}
use Rattle.definition.specs.Sizes as sizes
use Rattle.definition.specs.Sizes.{Operand, Step, equal, exactly, by_default, Sizing, pointer_size}
use Rattle.definition.specs.Walk as d
use Rattle.definition.specs.Walk.{State, Env, Outcome, done, stopped, on, require, with_sizing, with_action}
use Rattle.definition.specs.ActionList.{or_none, action_kind_number, operation_word, places_label, labels_placed}
use Rattle.definition.proofs.Openers.{base_opens}
use Rattle.list_pushes.specs.declared.push.Env.{Env as WordEnv}
use Rattle.list_pushes.specs.Pushes.{add_tmp, push, push_op, op_to}
use Rattle.list_values.specs.Values.{absent, no_output}
use Rattle.list_refinement.proofs.Seen.{seen_read, seen_pushed, seen_tmp, seen_push}
use Rattle.list_refinement.specs.Encoding.{enc_v, Sound, SoundTmp, Each, EachOption, SoundAction, SizesHold, first_of, second_of, output_of, Lent}
use Rattle.list_refinement.proofs.After.{After}
use Rattle.list_refinement.proofs.Pushes.{update_after, push-op_is, push-op-done, op_to_is, Stands, unnamed_is, push_is, add_done}
use Rattle.expr_refinement.proofs.Encodings.{sound_more, stood_more, params_more, mapping_more, actions_more, each_last, placed-last}
use Rattle.expr_refinement.proofs.Answers.{acts, temps, word, Halts, halts_done, halts_here, Reached, Refines, refines_map}
use Rattle.expr_refinement.proofs.Below.{Spare, Below, settled-begun}
use Rattle.list_refinement.specs.RuleKinds.{kind_of, Operands}
use Rattle.expr_refinement.specs.Encoding.{Small, Applies, tmps, count, Stood}

-- No rule changes the statement begun last.

module _ (sec : Section) where
  abbrev Keeps : Sizing → SemanticAction × Sizing → Type 0
  Keeps z r = r.1.begun ≡ z.begun

  given_keeps : (n : ℕ) (p : Operand) (y : Option Value) (x : SemanticAction) (z : Sizing) → Keeps z (sizes.set_given sec n p y x z)
  unfolding sizes.set_given sizes.set_size
  given_keeps n p none x z = refl
  given_keeps n p (some v) x z = settled-begun sec n v z (sizes.size_of sec z.temporaries v)

  set_keeps : (n : ℕ) (p : Operand) (x : SemanticAction) (z : Sizing) → Keeps z (sizes.set_operand sec n p x z)
  unfolding sizes.set_operand
  set_keeps n p x z = given_keeps n p (sizes.at p x) x z

  sets_keep : (n : ℕ) (ps : List Operand) (x : SemanticAction) (z : Sizing) → Keeps z (sizes.set_operands sec n ps x z)
  unfolding sizes.set_operands
  sets_keep n [] x z = refl
  sets_keep n (p ∷ ps) x z = sets_keep n ps _ _ ∙ set_keeps n p x z

  share_keeps : (a b : Option ℕ) (ps : List Operand) (x : SemanticAction) (z : Sizing) → Keeps z (sizes.share_size sec a b ps x z)
  unfolding sizes.share_size
  share_keeps none none ps x z = refl
  share_keeps none (some n) ps x z = sets_keep n ps x z
  share_keeps (some n) b ps x z = go (all (λ p. contains n (sizes.known_at sec x z p)) ps)
    where
      go : (c : Bool) → Keeps z (definition.when◌then◌else◌ c (x, z) (sizes.set_operands sec n (sizes.but_first (λ p. is_some (sizes.known_at sec x z p)) ps) x z))
      go true = unfold base_opens in refl
      go false = unfold base_opens in sets_keep n _ x z

  unsized_keeps : (a : Option ℕ) (n : ℕ) (p : Operand) (x : SemanticAction) (z : Sizing) → Keeps z (sizes.set_unsized sec a n p x z)
  unfolding sizes.set_unsized
  unsized_keeps none n p x z = set_keeps n p x z
  unsized_keeps (some m) n p x z = refl

  step_keeps : (late : Bool) (y : Step) (x : SemanticAction) (z : Sizing) → Keeps z (sizes.apply_step sec late y x z)
  unfolding sizes.apply_step sizes.set_size_of_all
  step_keeps late (equal ps) x z = share_keeps _ _ ps x z
  step_keeps late (exactly p n) x z = set_keeps (sizes.fixed_size (sizes.pointer_size sec) n) p x z
  step_keeps late (by_default p n) x z = unsized_keeps (sizes.known_at sec x z p) (sizes.fixed_size (sizes.pointer_size sec) n) p x z

  steps_keep : (late : Bool) (ys : List Step) (x : SemanticAction) (z : Sizing) → Keeps z (sizes.apply_steps sec late ys x z)
  unfolding sizes.apply_steps
  steps_keep late [] x z = refl
  steps_keep late (y ∷ ys) x z = steps_keep late ys _ _ ∙ step_keeps late y x z

  pub update_keeps : (late : Bool) (x : SemanticAction) (z : Sizing) → Keeps z (sizes.update_operand_sizes sec late x z)
  unfolding sizes.update_operand_sizes
  update_keeps late x z = steps_keep late _ x z

-- Temporaries and pushes are refused at the statement that has begun.

push_halts_at : (e : Env) (st : State) (x : SemanticAction) → Halts st (d.push x e st)
unfolding d.push on
push_halts_at e st x = go (leb (length st.actions + 1 + length e.section.subtables) e.action_room)
  where
    go : (b : Bool) → Halts st (on e (require b list_full e st) (λ _. λ e1 st1. done (tt {0}) (with_action x st1)))
    go true = unfold require in halts_done st tt _
    go false = unfold require in halts_here st list_full

pub add_halts : (e : Env) (st : State) (name size : Option ℕ) → Halts st (d.add_tmp name size e st)
unfolding d.add_tmp on
add_halts e st name size = go (leb (length (tmps st) + 1) e.temporary_room)
  where
    go : (b : Bool) → Halts st (on e (require b too_many_temporaries e st) (λ _. λ e1 st1. on e1 (done (tt {0}) (with_sizing (sizes.with_temporaries (tmps st ++ (record { name = name; size = size } ∷ [])) st.sizing) st1)) λ _. λ e2 st2. done (local Kind.PcodeTmp (length (tmps st))) st2))
    go true = unfold require in halts_done st _ _
    go false = unfold require in halts_here st too_many_temporaries

pub last_halts : {A B : Type 0} (e : Env) (st : State) (o : Outcome A) (f : A → B) → Halts st o → Halts st (on e o λ a. λ e1 st1. done (f a) st1)
unfolding on
last_halts e st (done a u) f h = halts_done st (f a) u
last_halts e st (stopped r ordinal errors) f h = λ k o n q. h k o n cc

pub push-op_halts : (e : Env) (st : State) (op : Operation) (n : ℕ) (vs : List Value) (output : Option Value) → Halts st (d.push_op op n vs output e st)
unfolding d.push_op on
push-op_halts e st op n vs output = λ r ordinal errors q.
    let k = last_halts e (with_sizing z st) (d.push y e (with_sizing z st)) (λ _. y) (push_halts_at e (with_sizing z st) y) r ordinal errors q in
    (k.0 ∙ update_keeps e.section false x st.sizing, k.1)
  where
    x : SemanticAction
    x = record { kind = ActionKind.Op op; number = n; inputs = vs; output = output }

    y : SemanticAction
    y = (sizes.update_operand_sizes e.section false x st.sizing).0

    z : Sizing
    z = (sizes.update_operand_sizes e.section false x st.sizing).1

pub no_label : (x : SemanticAction) (op : Operation) → x.kind ≡ ActionKind.Op op → is_op Operation.PcodeLabel op ≡ false → places_label x ≡ false
unfolding places_label operation_of and_then or_else
no_label x op h k = rw (h, k)

pub no_operation_lem : (x : SemanticAction) → operation_of x.kind ≡ none → places_label x ≡ false
unfolding places_label and_then or_else
no_operation_lem x h = rw h

module _ (s t : List ℕ) (e : Env) (front tail rest : List ℕ) (we : WordEnv) (lent : Lent e front tail rest) (holds : SizesHold s t e.section) (pointer_is : we.pointer ≡ pointer_size e.section) where
  stands : (spare : ℕ) (st : State) → Stood e.section tail rest spare st → Stands tail rest st
  stands spare st f = record { actions = f.actions; temporaries = f.temporaries; sizes = f.sizes }

  -- a temporary

  -- the states that follow, as the definition makes them
  abbrev added : (st : State) (size : Option ℕ) → State
  added st size = with_sizing (sizes.with_temporaries (tmps st ++ (record { name = none; size = size } ∷ [])) st.sizing) st

  add_state : (st : State) (size : Option ℕ) (v : Value) (u : State) → d.add_tmp none size e st ≡ done v u → u ≡ added st size
  unfolding d.add_tmp on
  add_state st size v u q = go (leb (length (tmps st) + 1) e.temporary_room) q
    where
      go : (b : Bool) → on e (require b too_many_temporaries e st) (λ _. λ e1 st1. on e1 (done (tt {0}) (with_sizing (sizes.with_temporaries (tmps st ++ (record { name = none; size = size } ∷ [])) st.sizing) st1)) λ _. λ e2 st2. done (local Kind.PcodeTmp (length (tmps st))) st2) ≡ done v u → u ≡ added st size
      go true q = let h : done (local Kind.PcodeTmp (length (tmps st))) (added st size) ≡ done v u = unfold require in q in cc
      go false q = let h : stopped too_many_temporaries st.sizing.begun 0 ≡ done v u = unfold require in q in cc

  add_refines : (spare : ℕ) (st : State) → Spare spare tail → Stood e.section tail rest spare st → (size : Option ℕ) → Small size
      → Refines e.section front tail rest spare st enc_v (Sound e.section) (seen_tmp (acts e.section front tail rest st) (add_tmp (temps e.section front tail rest st) 65535 (or_none size) (word e.section front tail rest st))) (d.add_tmp none size e st)
  add_refines spare st room f size h = record {
    same = unnamed_is e st front tail rest lent (stands spare st f) size h;
    goes = λ v u q.
        let m = add_done e st front tail rest lent (stands spare st f) none size (unfold or_none or_else in omega arith) h v u q in
        let k = add_state st size v u q in (
          record {
            stood = record {
              actions = m.stands.actions;
              temporaries = m.stands.temporaries;
              sizes = m.stands.sizes;
              errors = rw (m.errors, m.actions) f.errors;
              sound = rw m.actions (actions_more e.section (count st) (count u) m.count st.actions f.sound);
              params = rw (ap (λ (u : State). u.scope) k) (params_more e.section (count st) (count u) m.count st.scope.params f.params);
              mapping = rw (ap (λ (u : State). u.scope) k) (mapping_more e.section (count st) (count u) m.count st.scope.mapping f.mapping);
            };
            later = record {
              temporaries = m.count;
              statements = ap (λ (u : State). u.statements) k;
              scope = ap (λ (u : State). u.scope) k;
              next_label = ap (λ (u : State). u.next_label) k;
              export = ap (λ (u : State). u.export) k;
              begun = m.begun;
              actions = omega (arith, ap length m.actions);
              placed = ap labels_placed m.actions;
            };
          },
          m.sound,
        );
    stops = add_halts e st none size;
  }

  -- an action pushed behind a sizing that an operation's rule left
  pub pushed_state : (spare more : ℕ) (st : State) → Stood e.section tail rest spare st → (x : SemanticAction) (z : Sizing) → SoundAction e.section (length z.temporaries) x → places_label x ≡ false → length z.temporaries ≡ count st → Each SoundTmp z.temporaries → z.begun ≡ st.sizing.begun → length z.errors ≤ more + 4 * length st.actions + 4
      → (u : State) → u ≡ with_action x (with_sizing z st) → 24 * length u.actions ≤ length tail → Reached e.section front tail rest more st u
  pushed_state spare more st f x z sound plain same fit begun few u q long =
      let n : length (st.actions ++ (x ∷ [])) ≡ length st.actions + 1 = length-append st.actions (x ∷ []) in
      let c : 24 * length (st.actions ++ (x ∷ [])) ≤ length tail = subst (λ (u : State). 24 * length u.actions ≤ length tail) q long in
      subst (λ (w : State). Reached e.section front tail rest more st w) (sym q) (record {
        stood = record {
          actions = c;
          temporaries = rw same f.temporaries;
          sizes = fit;
          errors = omega arith;
          sound = each_last _ st.actions x (actions_more e.section (count st) (length z.temporaries) (omega arith) st.actions f.sound) sound;
          params = params_more e.section (count st) (length z.temporaries) (omega arith) st.scope.params f.params;
          mapping = mapping_more e.section (count st) (length z.temporaries) (omega arith) st.scope.mapping f.mapping;
        };
        later = record { temporaries = omega arith; statements = refl; scope = refl; next_label = refl; export = refl; begun = begun; actions = omega arith; placed = placed-last st.actions x ∙ unlabelled };
      })
    where
      unlabelled : labels_placed st.actions + (definition.when◌then◌else◌ (places_label x) 1 0) ≡ labels_placed st.actions
      unlabelled = rw plain (unfold base_opens in omega arith)

  -- an operation

  module _ (spare : ℕ) (st : State) (room : Spare spare tail) (f : Stood e.section tail rest (suc spare) st) (op : Operation) (n : ℕ) (vs : List Value) (few : length vs ≤ 2) (output : Option Value)
      (sound : SoundAction e.section (count st) (record { kind = ActionKind.Op op; number = n; inputs = vs; output = output })) (operands : Operands (kind_of op) (record { kind = ActionKind.Op op; number = n; inputs = vs; output = output })) (plain : is_op Operation.PcodeLabel op ≡ false) where
    abbrev pushed_as : SemanticAction
    pushed_as = record { kind = ActionKind.Op op; number = n; inputs = vs; output = output }

    errors-few : length st.sizing.errors + 3 < 2 ^ 64
    errors-few = let a = f.errors in let b = f.actions in omega arith

    after : After e.section 3 pushed_as st.sizing (sizes.update_operand_sizes e.section false pushed_as st.sizing).0 (sizes.update_operand_sizes e.section false pushed_as st.sizing).1
    after = update_after e st front tail rest lent (stands (suc spare) st f) s t holds we pointer_is op n vs few output sound operands errors-few

    push_goes : (a : SemanticAction) (u : State) → d.push_op op n vs output e st ≡ done a u → Reached e.section front tail rest spare st u × SoundAction e.section (count u) a
    push_goes a u q =
        let k = push-op-done e st front tail rest lent (stands (suc spare) st f) s t holds we pointer_is op n vs few output sound operands errors-few a u q in
        let z = (sizes.update_operand_sizes e.section false pushed_as st.sizing).1 in
        let w = after in (
          pushed_state (suc spare) spare st f (sizes.update_operand_sizes e.section false pushed_as st.sizing).0 z w.action (no_label _ op w.kind plain) w.count w.temporaries (update_keeps e.section false pushed_as st.sizing) (omega (arith, f.errors, w.errors)) u k.1 k.2.actions,
          rw k.0 (subst (λ (v : State). SoundAction e.section (count v) (sizes.update_operand_sizes e.section false pushed_as st.sizing).0) (sym k.1) w.action),
        )

  op_refines : (spare : ℕ) (st : State) → Spare spare tail → Stood e.section tail rest (suc spare) st → (op : Operation) (n : ℕ) (vs : List Value) (to : Value) → length vs ≤ 2 → Applies op vs → Each (Sound e.section (count st)) vs → Sound e.section (count st) to
      → Refines e.section front tail rest spare st enc_v (Sound e.section) (seen_read (op_to s t (acts e.section front tail rest st) (temps e.section front tail rest st) we (operation_number op) n (length vs) (enc_v to) (first_of vs) (second_of vs) (word e.section front tail rest st))) (d.op op n vs (some to) e st)
  unfolding d.op d.output_or on
  op_refines spare st room f op n vs to few ok h g = record {
    same = op_to_is e st front tail rest lent (stands (suc spare) st f) s t holds we pointer_is op n vs few to (record { inputs = h; output = g }) (ok n to).0 (errors-few spare st room f op n vs few (some to) (record { inputs = h; output = g }) (ok n to).0 (ok n to).1);
    goes = λ v u q. go (d.push_op op n vs (some to) e st) (push_goes spare st room f op n vs few (some to) (record { inputs = h; output = g }) (ok n to).0 (ok n to).1) v u q;
    stops = last_halts e st (d.push_op op n vs (some to) e st) (λ a. or_else to a.output) (push-op_halts e st op n vs (some to));
  }
    where
      known : (u : State) → count st ≤ count u → (a : SemanticAction) → SoundAction e.section (count u) a → Sound e.section (count u) (or_else to a.output)
      known u l a k = pick a.output k.output
        where
          pick : (y : Option Value) → EachOption (Sound e.section (count u)) y → Sound e.section (count u) (or_else to y)
          pick none m = unfold or_else in sound_more e.section (count st) (count u) l to g
          pick (some v) m = unfold or_else in m

      go : (o : Outcome SemanticAction) → ((a : SemanticAction) (u : State) → o ≡ done a u → Reached e.section front tail rest spare st u × SoundAction e.section (count u) a)
          → (v : Value) (u : State) → on e o (λ a. λ e1 st1. done (or_else to a.output) st1) ≡ done v u → Reached e.section front tail rest spare st u × Sound e.section (count u) v
      go (done a w) k v u q =
          let i : or_else to a.output ≡ v = cc in
          let j : w ≡ u = cc in
          let m = k a w refl in
          rw (← i, ← j) (m.0, known w m.0.later.temporaries a m.1)
      go (stopped r ordinal errors) k v u q = cc

  arg_refines : (spare : ℕ) (st : State) → Spare spare tail → Stood e.section tail rest spare st → (n : ℕ) (v : Value) → Sound e.section (count st) v
      → Refines e.section front tail rest spare st (λ _. tt {0}) (λ n (_ : Unit {0}). Unit {0}) (seen_pushed (push_op s t (acts e.section front tail rest st) (temps e.section front tail rest st) we 64 n 1 no_output (enc_v v) absent (word e.section front tail rest st))) (d.op_no_output Operation.Arg n (v ∷ []) e st)
  unfolding d.op_no_output operation_number output_of first_of second_of kind_of
  arg_refines spare st room f n v g =
      let k : SoundAction e.section (count st) (record { kind = ActionKind.Op Operation.Arg; number = n; inputs = v ∷ []; output = none }) = record { inputs = (g, tt); output = tt } in
      let w = stood_more (suc spare) (omega arith) f in
      refines_map e.section front tail rest spare e st (λ (_ : SemanticAction). tt {0}) (λ m a. SoundAction e.section m a) (λ _. tt {0}) (λ n (_ : Unit {0}). Unit {0}) (λ _. tt) _ (d.push_op Operation.Arg n (v ∷ []) none e st)
      (record {
        same = push-op_is e st front tail rest lent (stands (suc spare) st w) s t holds we pointer_is Operation.Arg n (v ∷ []) (omega arith) none k tt (errors-few spare st room w Operation.Arg n (v ∷ []) (omega arith) none k tt refl);
        goes = push_goes spare st room w Operation.Arg n (v ∷ []) (omega arith) none k tt refl;
        stops = push-op_halts e st Operation.Arg n (v ∷ []) none;
      }) (λ a. refl) (λ m a h. tt)

  -- an action that is no operation
  push-done : (st : State) (x : SemanticAction) (u : State) → d.push x e st ≡ done tt u → 24 * length st.actions + 24 ≤ length tail × u ≡ with_action x st
  unfolding d.push on
  push-done st x u q = go (leb (length st.actions + 1 + length e.section.subtables) e.action_room) refl q
    where
      go : (b : Bool) → leb (length st.actions + 1 + length e.section.subtables) e.action_room ≡ b → on e (require b list_full e st) (λ _. λ e1 st1. done (tt {0}) (with_action x st1)) ≡ done tt u → 24 * length st.actions + 24 ≤ length tail × u ≡ with_action x st
      go true p q =
          let h : done (tt {0}) (with_action x st) ≡ done tt u = unfold require in q in
          let k = leb-true (length st.actions + 1 + length e.section.subtables) e.action_room p in
          (omega (arith, lent.builds, lent.action_room), cc)
      go false p q = let h : stopped list_full st.sizing.begun 0 ≡ done (tt {0}) u = unfold require in q in cc

  push_refines : (spare : ℕ) (st : State) → Spare spare tail → Stood e.section tail rest (4 + spare) st → (x : SemanticAction) → length x.inputs ≤ 2 → SoundAction e.section (count st) x → places_label x ≡ false
      → Refines e.section front tail rest spare st (λ _. tt {0}) (λ n (_ : Unit {0}). Unit {0}) (seen_push (temps e.section front tail rest st) (push (acts e.section front tail rest st) (action_kind_number x.kind) (operation_word (operation_of x.kind)) x.number (length x.inputs) (output_of (operation_of x.kind) x.output) (first_of x.inputs) (second_of x.inputs) (word e.section front tail rest st))) (d.push x e st)
  push_refines spare st room f x few k plain = record {
    same = push_is e st front tail rest lent (stands (4 + spare) st f) (count st) x few k;
    goes = λ a u q.
        let h = push-done st x u q in
        let n : length (st.actions ++ (x ∷ [])) ≡ length st.actions + 1 = length-append st.actions (x ∷ []) in
        let c : 24 * length (st.actions ++ (x ∷ [])) ≤ length tail = omega (arith, h.0) in
        (pushed_state (4 + spare) spare st f x st.sizing k plain refl f.sizes refl (omega (arith, f.errors)) u h.1 (subst (λ (w : State). 24 * length w.actions ≤ length tail) (sym h.1) c), tt);
    stops = push_halts_at e st x;
  }

  -- all that expressions need of the level below
  pub level_below : Below s t e front tail rest we
  level_below = record { sizes = holds; pointer = pointer_is; adds = add_refines; ops = op_refines; args = arg_refines; pushes = push_refines }
