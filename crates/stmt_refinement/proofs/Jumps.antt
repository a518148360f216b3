-- Branches to an address: a direct jump takes the local as it is, a subtable by its reference, an indirect one reads it.
use Prim.Native.Nat.{ℕ, suc, ◌+◌}
use mathlib.Core.Path.{◌≡◌, refl}
use mathlib.Core.List.{List, [], ◌∷◌}
use mathlib.Core.Option.{none, some}
use native.Mathlib.Omega.{arith}
use lib.ListN.{get_or}
use lib.Dec.{eqb}
use Rattle.prelude.specs.Base as definition
use Rattle.prelude.specs.Base.{or_else, is_some, when◌then◌else◌}
use Rattle.definition.specs.Refusals.{refusal_number, jump_to_non_local}
use Rattle.definition.specs.Operations.{Operation, operation_number}
use Rattle.definition.specs.Value.{Kind, kind_number, Value, is_kind}
use Rattle.definition.specs.Ast.{BranchHint}
use Rattle.definition.specs.Sizes.{at, pointer_size}
use Rattle.definition.specs.Walk as walks
use Rattle.definition.specs.Walk.{ExprValue, State, Env, Outcome, stopped, on, expect}
use Rattle.definition.specs.Expressions as expressions
use Rattle.definition.specs.Statements as d
use Rattle.definition.specs.ActionList.{or_none}
use Rattle.definition.proofs.Openers.{base_opens}
use Rattle.list_pushes.specs.declared.push.State.{State as WordState}
use Rattle.list_pushes.specs.declared.push.Env.{Env as WordEnv}
use Rattle.list_refinement.specs.Encoding.{enc_v, Within, Sound, first_of, second_of}
use Rattle.expr_terms.specs.Answers.{after}
use Rattle.stmt_walk.specs.Outcomes.{Walk}
use Rattle.stmt_walk.specs.Walks.{Stepped, stepped, stop}
use Rattle.stmt_branches.specs.Branches.{branch_to, direct_address, direct, indirect}
use Rattle.expr_refinement.proofs.Encodings.{sound_more, stood_more}
use Rattle.expr_refinement.proofs.Answers.{bind_read, acts, temps, word}
use Rattle.expr_refinement.proofs.Below.{Spare}
use Rattle.expr_refinement.proofs.Reading.{read-operand}
use Rattle.stmt_refinement.proofs.Views.{seen_step, begun_in, stop_seen, step_stops, Goes, step_pushed_lem}
use Rattle.stmt_refinement.proofs.Operations.{no_output_lem}
use Rattle.stmt_refinement.proofs.Given.{below}
use Rattle.list_refinement.specs.RuleKinds.{kind_of}
use Rattle.expr_refinement.specs.Encoding.{enc_x, SoundX, count, Stood}
use Rattle.stmt_refinement.specs.Standing.{beside, Given}

module _ (s t : List ℕ) (e : Env) (front tail rest : List ℕ) (we : WordEnv) (given : Given s t e front tail rest we) (spare : ℕ) (room : Spare spare tail) (w : Walk) (at-hint : ℕ) (hint : BranchHint) (is-hint : get_or s (at-hint + 0) 0 ≡ d.hint_number hint) where
  abbrev A : State → List ℕ
  A st = acts e.section front tail rest st

  abbrev M : State → List ℕ
  M st = temps e.section front tail rest st

  abbrev W : State → WordState
  W st = word e.section front tail rest st

  abbrev Stands : State → Type 0
  Stands st = Stood e.section tail rest spare st

  abbrev Ends : State → Stepped → Outcome (Unit {0}) → Type 0
  Ends st x o = Goes e.section front tail rest spare st (after at-hint 1) (beside w) (begun_in w) x o

  branching : Value → Value → walks.Walk (Unit {0})
  branching cond address = walks.op_no_output Operation.Branch (d.hint_number hint) (cond ∷ address ∷ [])

  branch_to_lem : (st : State) → Stands st → (cond address : Value) → Sound e.section (count st) cond → Sound e.section (count st) address
      → Ends st (branch_to s t (A st) (M st) we (enc_v cond) (enc_v address) at-hint (W st) w) (branching cond address e st)
  unfolding branch_to branching operation_number first_of second_of kind_of at is_some
  branch_to_lem st f cond address h g =
      rw is-hint (step_pushed_lem e.section front tail rest spare st _ _ (after at-hint 1) w
      (no_output_lem s t e front tail rest we given.lent given.sizes given.pointer spare st room (stood_more (suc spare) (omega arith) f) Operation.Branch (d.hint_number hint) (cond ∷ address ∷ []) (omega arith) (h, (g, tt)) (refl, refl) refl))

  abbrev addressed : Value → Value
  addressed v = definition.when◌then◌else◌ (is_kind Kind.Subtable v) (record { kind = Kind.SubtableRef; number = v.number; offset = v.offset; size = some (pointer_size e.section) }) v

  address_is : (v : Value) → direct_address we.pointer (enc_v v) ≡ enc_v (addressed v)
  unfolding direct_address is_kind
  address_is v = rw given.pointer (go v.kind)
    where
      go : (k : Kind) → (when eqb (kind_number k) 4 then record { kind = 5; number = v.number; offset = v.offset; size = pointer_size e.section } else record { kind = kind_number k; number = v.number; offset = v.offset; size = or_none v.size })
          ≡ enc_v (definition.when◌then◌else◌ (eqb (kind_number Kind.Subtable) (kind_number k)) (record { kind = Kind.SubtableRef; number = v.number; offset = v.offset; size = some (pointer_size e.section) }) (record { kind = k; number = v.number; offset = v.offset; size = v.size }))
      go Kind.InstStart = unfold kind_number base_opens or_none or_else in refl
      go Kind.InstNext = unfold kind_number base_opens or_none or_else in refl
      go Kind.Register = unfold kind_number base_opens or_none or_else in refl
      go Kind.Field = unfold kind_number base_opens or_none or_else in refl
      go Kind.Subtable = unfold kind_number base_opens or_none or_else in refl
      go Kind.SubtableRef = unfold kind_number base_opens or_none or_else in refl
      go Kind.PcodeTmp = unfold kind_number base_opens or_none or_else in refl
      go Kind.Constant = unfold kind_number base_opens or_none or_else in refl

  address_sound : (n : ℕ) (v : Value) → Sound e.section n v → Sound e.section n (addressed v)
  unfolding is_kind
  address_sound n v h = go v.kind h.number
    where
      same : (k : Kind) → Within e.section n k v.number → Sound e.section n (record { kind = k; number = v.number; offset = v.offset; size = v.size })
      same k m = record { number = m; offset = h.offset; size = h.size }

      go : (k : Kind) → Within e.section n k v.number
          → Sound e.section n (definition.when◌then◌else◌ (eqb (kind_number Kind.Subtable) (kind_number k)) (record { kind = Kind.SubtableRef; number = v.number; offset = v.offset; size = some (pointer_size e.section) }) (record { kind = k; number = v.number; offset = v.offset; size = v.size }))
      go Kind.InstStart m = unfold kind_number base_opens in same Kind.InstStart m
      go Kind.InstNext m = unfold kind_number base_opens in same Kind.InstNext m
      go Kind.Register m = unfold kind_number base_opens in same Kind.Register m
      go Kind.Field m = unfold kind_number base_opens in same Kind.Field m
      go Kind.Subtable m = unfold kind_number base_opens in record { number = m; offset = h.offset; size = unfold or_else in given.sizes.pointer_small }
      go Kind.SubtableRef m = unfold kind_number base_opens in same Kind.SubtableRef m
      go Kind.PcodeTmp m = unfold kind_number base_opens in same Kind.PcodeTmp m
      go Kind.Constant m = unfold kind_number base_opens in same Kind.Constant m

  no_local : (st : State) → Ends st (stepped (stop 29 w) (A st) (M st)) (stopped jump_to_non_local st.sizing.begun 0)
  no_local st = step_stops e.section front tail rest spare st _ _ w (A st) (M st) 29 jump_to_non_local (unfold refusal_number in refl)

  pub direct_is : (st : State) → Stands st → (x : ExprValue) (cond : Value) → SoundX e.section (count st) x → Sound e.section (count st) cond
      → Ends st (direct s t (A st) (M st) we (enc_x x) (enc_v cond) at-hint (W st) w) (on e (d.direct_address x e st) λ address. walks.op_no_output Operation.Branch (d.hint_number hint) (cond ∷ address ∷ []))
  unfolding direct enc_x d.direct_address expressions.as_local expect on branching
  direct_is st f (ExprValue.Local v) cond h g = rw (address_is v) (branch_to_lem st f cond (addressed v) g (address_sound (count st) v h))
  direct_is st f (ExprValue.Unbound v) cond h g = no_local st
  direct_is st f (ExprValue.Const n z) cond h g = no_local st
  direct_is st f (ExprValue.Apply op n vs) cond h g = no_local st
  direct_is st f (ExprValue.RamRef v z) cond h g = no_local st
  direct_is st f (ExprValue.RegisterRef v z) cond h g = no_local st
  direct_is st f (ExprValue.AddressOf v z) cond h g = no_local st
  direct_is st f (ExprValue.BitRange v from bits) cond h g = no_local st

  pub indirect_is : (st : State) → Stands st → (x : ExprValue) (cond : Value) → SoundX e.section (count st) x → Sound e.section (count st) cond
      → Ends st (indirect s t (A st) (M st) we (enc_x x) (enc_v cond) at-hint (W st) w) (on e (expressions.read_value x none e st) λ address. walks.op_no_output Operation.Branch (d.hint_number hint) (cond ∷ address ∷ []))
  unfolding indirect branching
  indirect_is st f x cond h g =
      bind_read e.section front tail rest spare spare e st (Sound e.section) (seen_step (begun_in w)) (λ (_ : Unit {0}). (after at-hint 1, beside w)) (λ n (_ : Unit {0}). Unit {0}) (λ address. walks.op_no_output Operation.Branch (d.hint_number hint) (cond ∷ address ∷ [])) enc_v _ _ _ _
      (read-operand s t e front tail rest we (below s t e front tail rest we given) spare room st f x h) (λ n y z. stop_seen n w y z)
      λ v st1 r k. branch_to_lem st1 r.stood cond v (sound_more e.section (count st) (count st1) r.later.temporaries cond g) k
