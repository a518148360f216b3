-- Stores: the value is read, then the pointer is resolved, and the value goes where the reference says.
use Prim.Native.Nat.{ℕ, suc, ◌+◌, ◌≤◌, ◌<◌}
use mathlib.Core.Path.{◌≡◌, refl, ap}
use mathlib.Core.List.{List, [], ◌∷◌}
use mathlib.Core.Option.{Option, none, some}
use native.Mathlib.Omega.{arith}
use lib.ListN.{length, drop}
use Rattle.access.specs.Le.{le16}
use Rattle.prelude.specs.Base as definition
use Rattle.prelude.specs.Base.{is_some, when◌then◌else◌, contains}
use Rattle.definition.specs.Refusals.{refusal_number, store_to_no_address}
use Rattle.definition.specs.Operations.{Operation, operation_number}
use Rattle.definition.specs.Value.{Value, ActionKind, SemanticAction, operation_of}
use Rattle.definition.specs.Ast.{Statement}
use Rattle.definition.specs.Sizes.{at}
use Rattle.definition.specs.Walk.{ExprValue, State, Env, Outcome, on, expect}
use Rattle.definition.specs.Walk as walks
use Rattle.definition.specs.Expressions as expressions
use Rattle.definition.specs.Statements as d
use Rattle.definition.specs.ActionList.{or_none, action_kind_number, operation_word}
use Rattle.list_values.specs.declared.value.Value.{Value as WordValue}
use Rattle.list_pushes.specs.declared.push.State.{State as WordState}
use Rattle.list_pushes.specs.declared.push.Env.{Env as WordEnv}
use Rattle.list_values.specs.Base.{Listed, listed, then_l}
use Rattle.list_values.specs.Values.{absent, no_output}
use Rattle.list_pushes.specs.Pushes.{push, push_op}
use Rattle.file_syntax.specs.Cursors.{Cursor}
use Rattle.file_refinement.specs.Holds.{absent_at}
use Rattle.file_refinement.proofs.Inversion.{StoreAt}
use Rattle.list_refinement.specs.Encoding.{enc_v, Sound, first_of, second_of, output_of}
use Rattle.list_refinement.proofs.Seen.{no, yes}
use Rattle.expr_reading.specs.Outcomes.{Stated}
use Rattle.expr_reading.specs.Reading.{set_stated, take_stated}
use Rattle.expr_terms.specs.Addresses.{resolve_address}
use Rattle.expr_resolver.specs.Expressions.{skip_expr}
use Rattle.stmt_walk.specs.Outcomes.{Walk}
use Rattle.stmt_walk.specs.Walks.{Stepped, stepped, step_pushed, stop, pushed_then}
use Rattle.stmt_assignments.specs.Stores.{store_stated, store, register_stated, store_register, store_at, store_in, store_pointer, store_statement}
use Rattle.expr_refinement.proofs.Encodings.{sound_more, stood_more}
use Rattle.expr_refinement.proofs.Answers.{bind, bind_expr, bind_operand, acts, temps, word, seen_expr, Refines}
use Rattle.expr_refinement.proofs.Below.{Spare, seen_stated}
use Rattle.expr_refinement.proofs.Scopes.{scoped-later}
use Rattle.expr_refinement.proofs.Addresses.{address}
use Rattle.expr_refinement.proofs.Positions.{ends, begins}
use Rattle.expr_refinement.proofs.Expressions.{after_is, absent-word, small_or}
use Rattle.expr_refinement.proofs.Pushing.{no_operation_lem}
use Rattle.stmt_refinement.proofs.Views.{seen_step, begun_in, stop_seen, push_ends, refines_as, step_stops, Goes, step_pushed_lem, on_assoc}
use Rattle.stmt_refinement.proofs.Operations.{no_output_lem}
use Rattle.stmt_refinement.proofs.Given.{below, expression, operand_of_lem}
use Rattle.expr_refinement.proofs.Stated.{set_stated_lem, take_stated_lem}
use Rattle.list_refinement.specs.RuleKinds.{kind_of}
use Rattle.expr_refinement.specs.Encoding.{enc_x, Small, SoundX, count, Stood, Scoped}
use Rattle.stmt_refinement.specs.Standing.{Beside, beside, Given, walk_of}

module _ (s t : List ℕ) (e : Env) (front tail rest : List ℕ) (we : WordEnv) (given : Given s t e front tail rest we) (spare : ℕ) (room : Spare spare tail) where
  abbrev A : State → List ℕ
  A st = acts e.section front tail rest st

  abbrev M : State → List ℕ
  M st = temps e.section front tail rest st

  abbrev W : State → WordState
  W st = word e.section front tail rest st

  abbrev Stands : State → Type 0
  Stands st = Stood e.section tail rest spare st

  module _ (w : Walk) (next : ℕ) where
    abbrev Ends : State → Stepped → Outcome (Unit {0}) → Type 0
    Ends st x o = Goes e.section front tail rest spare st next (beside w) (begun_in w) x o

    -- a store in RAM
    pub store_is : (st : State) → Stands st → (pointer : Value) (size : ℕ) (v : Value) → size < 65535 → Sound e.section (count st) pointer → Sound e.section (count st) v
        → Ends st (store s t (A st) (M st) we (enc_v pointer) size (enc_v v) next (W st) w) (d.store size pointer v e st)
    unfolding store d.store seen_stated store_stated
    store_is st f pointer size v l h g =
        bind e.section front tail rest (suc spare) spare e st enc_v (Sound e.section) (seen_step (begun_in w)) (λ (_ : Unit {0}). (next, beside w)) (λ n (_ : Unit {0}). Unit {0}) (λ u. walks.op_no_output Operation.Store 0 (pointer ∷ u ∷ []))
        (seen_stated (A st) (take_stated s t (M st) (enc_v v) size (W st))) (expressions.take_stated size v e st) (store_stated s t (A st) we (enc_v pointer) next w (take_stated s t (M st) (enc_v v) size (W st)))
        (λ u st2 a m. step_pushed (push_op s t a m we 59 0 2 no_output (enc_v pointer) u st2) (pushed_then next w))
        (take_stated_lem s t e front tail rest given.sizes spare room st f size v l g)
        (λ u st2 q k. step_pushed_lem e.section front tail rest spare st2 _ _ next w
        (unfold operation_number first_of second_of in no_output_lem s t e front tail rest we given.lent given.sizes given.pointer spare st2 room q.stood Operation.Store 0 (pointer ∷ u ∷ []) (omega arith) (sound_more e.section (count st) (count st2) q.later.temporaries pointer h, (k, tt)) (unfold kind_of at is_some in refl) refl))
        (go (A st) (take_stated s t (M st) (enc_v v) size (W st))) (stays (A st) (take_stated s t (M st) (enc_v v) size (W st)))
      where
        go : (c : List ℕ) (x : Listed Stated) (u : WordValue) (st2 : WordState) (a m : List ℕ) → seen_stated c x ≡ yes u st2 a m → seen_step (begun_in w) (store_stated s t c we (enc_v pointer) next w x) ≡ seen_step (begun_in w) (step_pushed (push_op s t a m we 59 0 2 no_output (enc_v pointer) u st2) (pushed_then next w))
        go c (listed out y) u st2 a m q = (let p : out.v ≡ u = cc in let r : out.st ≡ st2 = cc in let i : c ≡ a = cc in let j : y ≡ m = cc in rw (p, r, i, j))

        stays : (c : List ℕ) (x : Listed Stated) (k : ℕ) → seen_stated c x ≡ no k → seen_step (begun_in w) (store_stated s t c we (enc_v pointer) next w x) ≡ no k
        stays c (listed out y) k q = (let z : ◌≡◌ {A = ℕ} 0 1 = cc in absurd (omega arith))

    abbrev storing : ℕ → Value → Value → SemanticAction
    storing size pointer v = record { kind = ActionKind.StoreRegister; number = size; inputs = pointer ∷ v ∷ []; output = none }

    abbrev pushing : WordValue → ℕ → WordValue → WordState → List ℕ → List ℕ → Stepped
    pushing pointer size u st2 a m = then_l (push a 3 0 size 2 absent pointer u st2) λ r c. stepped (pushed_then next w r) c m

    store-register : (st : State) → Stands st → (pointer : Value) (size : ℕ) (v : Value) → size < 65535 → Sound e.section (count st) pointer → Sound e.section (count st) v
        → Ends st (store_register s t (A st) (M st) (enc_v pointer) size (enc_v v) next (W st) w) (d.store_register size pointer v e st)
    unfolding store_register d.store_register action_kind_number operation_word operation_of output_of first_of second_of
    store-register st f pointer size v l h g =
        bind e.section front tail rest (suc spare) spare e st enc_v (Sound e.section) (seen_step (begun_in w)) (λ (_ : Unit {0}). (next, beside w)) (λ n (_ : Unit {0}). Unit {0}) (λ u. walks.push (storing size pointer u))
        (seen_stated (A st) (set_stated s t (M st) (enc_v v) size (W st))) (expressions.set_stated size v e st) (register_stated (A st) (enc_v pointer) size next w (set_stated s t (M st) (enc_v v) size (W st)))
        (λ u st2 a m. pushing (enc_v pointer) size u st2 a m)
        (set_stated_lem s t e front tail rest given.sizes spare room st f size v l g)
        (λ u st2 q k. refines_as e.section front tail rest spare st2 (λ _. tt {0}) (λ n (_ : Unit {0}). Unit {0}) (λ _. (next, beside w)) _ _ _
        ((below s t e front tail rest we given).pushes spare st2 room (stood_more (4 + spare) (omega arith) q.stood) (storing size pointer u) (omega arith) (record { inputs = (sound_more e.section (count st) (count st2) q.later.temporaries pointer h, (k, tt)); output = tt }) (no_operation_lem _ (unfold operation_of in refl)))
        (push_ends (push (A st2) 3 0 size 2 absent (enc_v pointer) (enc_v u) (W st2)) (M st2) next w))
        (go (A st) (set_stated s t (M st) (enc_v v) size (W st))) (stays (A st) (set_stated s t (M st) (enc_v v) size (W st)))
      where
        go : (c : List ℕ) (x : Listed Stated) (u : WordValue) (st2 : WordState) (a m : List ℕ) → seen_stated c x ≡ yes u st2 a m → seen_step (begun_in w) (register_stated c (enc_v pointer) size next w x) ≡ seen_step (begun_in w) (pushing (enc_v pointer) size u st2 a m)
        go c (listed out y) u st2 a m q = unfold seen_stated register_stated in (let p : out.v ≡ u = cc in let r : out.st ≡ st2 = cc in let i : c ≡ a = cc in let j : y ≡ m = cc in rw (p, r, i, j))

        stays : (c : List ℕ) (x : Listed Stated) (k : ℕ) → seen_stated c x ≡ no k → seen_step (begun_in w) (register_stated c (enc_v pointer) size next w x) ≡ no k
        stays c (listed out y) k q = unfold seen_stated in (let z : ◌≡◌ {A = ℕ} 0 1 = cc in absurd (omega arith))

    no_address : (st : State) → Ends st (stepped (stop 28 w) (A st) (M st)) (walks.stopped store_to_no_address st.sizing.begun 0)
    no_address st = step_stops e.section front tail rest spare st _ _ w (A st) (M st) 28 store_to_no_address (unfold refusal_number in refl)

    store_at_lem : (st : State) → Stands st → (x : ExprValue) (v : Value) → SoundX e.section (count st) x → Sound e.section (count st) v
        → Ends st (store_at s t (A st) (M st) we (enc_x x) (enc_v v) next (W st) w) (d.store_at v x e st)
    unfolding store_at enc_x d.store_at d.as_reference d.store_in expect on
    store_at_lem st f (ExprValue.RamRef pointer size) v h g = store_is st f pointer size v h.1 h.0 g
    store_at_lem st f (ExprValue.RegisterRef pointer size) v h g = store-register st f pointer size v h.1 h.0 g
    store_at_lem st f (ExprValue.Local x) v h g = no_address st
    store_at_lem st f (ExprValue.Unbound x) v h g = no_address st
    store_at_lem st f (ExprValue.Const n z) v h g = no_address st
    store_at_lem st f (ExprValue.Apply op n vs) v h g = no_address st
    store_at_lem st f (ExprValue.AddressOf x z) v h g = no_address st
    store_at_lem st f (ExprValue.BitRange x from bits) v h g = no_address st

    -- the reference that a pointer is, as words that may be absent
    address_at : (st : State) → Stands st → (space size : Option ℕ) (a b : ℕ) → or_none space ≡ a → or_none size ≡ b → (x : ExprValue) → ((y : ℕ) → space ≡ some y → y < 1024) → Small size → SoundX e.section (count st) x
        → Refines e.section front tail rest spare st (λ (x : ExprValue). (enc_x x, next)) (SoundX e.section) (seen_expr (resolve_address s t (A st) (M st) we a b (enc_x x) next (W st)))
        ((definition.when◌then◌else◌ (contains e.section.header.const space) (expressions.in_const_space size x) (expressions.address_in space size x)) e st)
    address_at st f space size a b p q x k l h = rw (← p, ← q) (address s t e front tail rest we (below s t e front tail rest we given) given.holds spare room next st f space size x k l h)

  module _ (b : Beside) (p : List ℕ) (from : State) (pos : ℕ) (l : pos ≤ length s) (x : Statement) (u : List ℕ) (i : StoreAt s (le16 s 2) pos x u) where
    abbrev w : Walk
    w = walk_of b (W from)

    space-known : (y : ℕ) → absent_at s (pos + 1) ≡ some y → y < 1024
    space-known y g = omega (arith, i.space-below y g, given.holds.limits.names)

    abbrev placing : ExprValue → walks.Walk ExprValue
    placing y e1 st1 = (definition.when◌then◌else◌ (contains e1.section.header.const (absent_at s (pos + 1))) (expressions.in_const_space (absent_at s (pos + 3)) y) (expressions.address_in (absent_at s (pos + 1)) (absent_at s (pos + 3)) y)) e1 st1

    store_in_lem : (st : State) → Stands st → (y : ExprValue) (v : Value) → SoundX e.section (count st) y → Sound e.section (count st) v
        → Ends w i.value_end st (store_in s t (A st) (M st) we pos (enc_x y) (enc_v v) i.value_end (W st) w) (on e (placing y e st) (d.store_at v))
    unfolding store_in
    store_in_lem st f y v h g =
        bind_expr e.section front tail rest spare spare e st (SoundX e.section) (seen_step (begun_in w)) (λ (_ : Unit {0}). (i.value_end, b)) (λ n (_ : Unit {0}). Unit {0}) (d.store_at v) (λ (x : ExprValue). (enc_x x, i.value_end)) _ _ _ _
        (address_at w i.value_end st f (absent_at s (pos + 1)) (absent_at s (pos + 3)) (le16 s (pos + 1)) (le16 s (pos + 3)) (absent-word s (pos + 1)) (absent-word s (pos + 3)) y space-known (small_or (absent_at s (pos + 3)) i.size_below) h) (λ n a m. stop_seen n w a m)
        λ z st1 r k. store_at_lem w i.value_end st1 r.stood z v k (sound_more e.section (count st) (count st1) r.later.temporaries v g)

    store-pointer : (st : State) → Stands st → Scoped t p we st → (v : Value) → Sound e.section (count st) v
        → Ends w i.value_end st (store_pointer s t p (A st) (M st) we pos (enc_v v) i.value_end (W st) w) (on e (expressions.resolve_address (absent_at s (pos + 1)) (absent_at s (pos + 3)) (expressions.resolve_expr i.pointer) e st) (d.store_at v))
    unfolding store_pointer
    store-pointer st f c v g =
        rw (after_is pos 5 (omega (arith, given.short)) (omega arith), split)
        (bind_expr e.section front tail rest spare spare e st (SoundX e.section) (seen_step (begun_in w)) (λ (_ : Unit {0}). (i.value_end, b)) (λ n (_ : Unit {0}). Unit {0}) (λ y e1 st1. on e1 (placing y e1 st1) (d.store_at v)) (λ (x : ExprValue). (enc_x x, i.pointer-end)) _ _ _ _
        (expression s t e front tail rest we given p spare room (pos + 5) i.pointer i.pointer-end i.pointer-reads i.pointer-inside st f c) (λ n a m. stop_seen n w a m)
        λ y st1 r h. store_in_lem st1 r.stood y v h (sound_more e.section (count st) (count st1) r.later.temporaries v g))
      where
        split : on e (expressions.resolve_address (absent_at s (pos + 1)) (absent_at s (pos + 3)) (expressions.resolve_expr i.pointer) e st) (d.store_at v) ≡ on e (expressions.resolve_expr i.pointer e st) (λ y e1 st1. on e1 (placing y e1 st1) (d.store_at v))
        split = unfold expressions.resolve_address on in on_assoc e (expressions.resolve_expr i.pointer e st) placing (d.store_at v)

    pub store-statement_is : Stands from → Scoped t p we from
        → Goes e.section front tail rest spare from i.value_end b (or_none from.sizing.begun) (store_statement s t p (A from) (M from) we pos (walk_of b (W from)))
        (on e (expressions.value_of (expressions.resolve_expr i.value) e from) λ v e1 st1. on e1 (expressions.resolve_address (absent_at s (pos + 1)) (absent_at s (pos + 3)) (expressions.resolve_expr i.pointer) e1 st1) (d.store_at v))
    unfolding store_statement skip_expr
    store-statement_is f c =
        let k = begins s (le16 s 2) 32 (pos + 5) i.pointer (drop i.pointer-end s) i.pointer-reads in
        let q = ap (λ (c : Cursor). c.at) (ends s (le16 s 2) 32 (pos + 5) 0 i.pointer i.pointer-end i.pointer-reads (omega arith) i.pointer-inside).is in
        rw (after_is pos 5 (omega (arith, given.short)) (omega arith), q)
        (bind_operand e.section front tail rest spare spare e from (Sound e.section) (seen_step (begun_in w)) (λ (_ : Unit {0}). (i.value_end, b)) (λ n (_ : Unit {0}). Unit {0}) (λ v e1 st1. on e1 (expressions.resolve_address (absent_at s (pos + 1)) (absent_at s (pos + 3)) (expressions.resolve_expr i.pointer) e1 st1) (d.store_at v)) (λ (v : Value). (enc_v v, i.value_end)) _ _ _ _
        (operand_of_lem s t e front tail rest we given p spare room i.pointer-end i.value i.value_end i.value_reads i.value_inside from f c) (λ n a m. stop_seen n w a m)
        λ v st1 r h. store-pointer st1 r.stood (scoped-later t p we from st1 r.later c) v h)
