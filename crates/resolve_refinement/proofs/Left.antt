-- What the end of the actions leaves as it was, whether it refuses or not: the number of words, and the ordinal of the
-- statement begun last. In the definition a refusal there has that ordinal and no errors.
use Prim.Native.Nat.{ℕ, zero, suc, ◌+◌, ◌*◌, ◌%◌}
use mathlib.Core.Path.{◌≡◌, refl, ◌∙◌}
use mathlib.Core.Bool.{Bool, true, false}
use mathlib.Core.List.{List, [], ◌∷◌}
use mathlib.Core.Option.{Option, none, some}
use lib.ListN.{length, get_or, length-set}
use lib.Dec.{eqb, leb}
use Rattle.prelude.specs.Base as definition
use Rattle.prelude.specs.Base.{and_then, when◌then◌else◌}
use Rattle.definition.specs.Refusals.{Refusal, subpiece_size, offset_too_far}
use Rattle.definition.specs.Operations.{Operation, is_op}
use Rattle.definition.specs.Value.{Value, SemanticAction, operation_of}
use Rattle.definition.specs.Sizes as sizes
use Rattle.definition.specs.Walk.{State, Env, Outcome, done, stopped, on, Walk, require, expect, with_sizing, sliced}
use Rattle.definition.specs.End as d
use Rattle.definition.proofs.Openers.{base_opens}
use Rattle.list_values.specs.declared.value.Value.{Value as WordValue}
use Rattle.list_values.specs.Outcomes.{Slice}
use Rattle.list_values.specs.declared.sizes.Sizing.{Sizing as WordSizing}
use Rattle.list_end.specs.Outcomes.{Fixed}
use Rattle.list_end.specs.Outcomes.{Finished}
use Rattle.list_values.specs.Base.{Listed, listed, then_l}
use Rattle.access.specs.Loops.{run}
use Rattle.list_values.specs.Values.{with_size, slice_bytes, value_at, put_value, place}
use Rattle.list_values.specs.Sizes.{size_of, recorded, error, falls_back}
use Rattle.list_end.specs.End.{fixed, finished, fix_size, put_fixed, fix_operand, fix_input, fix_inputs, fix_output, fix_operands, write_copy, copy_of, subpiece_copy, finish_fixed, finish_op, then_f, finish_from, finish_actions}

-- the words

abbrev begun_in : WordSizing → ℕ
begun_in z = z.begun

error-begun : (z : WordSizing) → (error z).begun ≡ z.begun
unfolding error recorded
error-begun z = refl

fix_begun : (s t m : List ℕ) (v : WordValue) (ptr : ℕ) (z : WordSizing) → (fix_size s t m v ptr z).z.begun ≡ z.begun
unfolding fix_size
fix_begun s t m v ptr z = go (eqb (size_of s t m v) 65535) (falls_back v)
  where
    begun_of : Fixed → ℕ
    begun_of f = f.z.begun

    go : (b c : Bool) → begun_of (when b then (when c then fixed (with_size ptr v) z else fixed v (error z)) else fixed (with_size (size_of s t m v) v) z) ≡ z.begun
    go true true = refl
    go true false = error-begun z
    go false c = refl

abbrev Left : ℕ → ℕ → Listed WordSizing → Type 0
Left n begun (listed z a) = (length a ≡ n) × (z.begun ≡ begun)

-- so many words, and that ordinal
abbrev pub LeftAs : ℕ → ℕ → Listed Finished → Type 0
LeftAs n begun (listed f a) = (length a ≡ n) × (f.z.begun ≡ begun)

put_length : (l : List ℕ) (at i : ℕ) (v : WordValue) → length (put_value l at i v) ≡ length l
unfolding put_value
put_length l at i v = rw (length-set, length-set)

module _ (s t m : List ℕ) (n begun : ℕ) where
  operand_left : (a : List ℕ) (at i ptr : ℕ) (z : WordSizing) → Left n begun (listed z a) → Left n begun (fix_operand s t a m at i ptr z)
  unfolding fix_operand put_fixed
  operand_left a at i ptr z h = (put_length a at i (fix_size s t m (value_at a at i) ptr z).v ∙ h.0, fix_begun s t m (value_at a at i) ptr z ∙ h.1)

  inputs_left : (k i at ptr : ℕ) (x : Listed WordSizing) → Left n begun x → Left n begun (run k i (fix_input s t m at ptr) x)
  unfolding run fix_input then_l
  inputs_left zero i at ptr x h = h
  inputs_left (suc k) i at ptr (listed z a) h = inputs_left k (suc i) at ptr (fix_operand s t a m at (6 + i % 8 * 2) ptr z) (operand_left a at (6 + i % 8 * 2) ptr z h)

  output_left : (a : List ℕ) (at ptr : ℕ) (z : WordSizing) → Left n begun (listed z a) → Left n begun (fix_output s t a m at ptr z)
  unfolding fix_output
  output_left a at ptr z h = go (eqb (get_or a (at + 5) 0) 255)
    where
      go : (b : Bool) → Left n begun (when b then listed z a else fix_operand s t a m at 4 ptr z)
      go true = h
      go false = operand_left a at 4 ptr z h

  operands_left : (a : List ℕ) (at ptr : ℕ) (z : WordSizing) → Left n begun (listed z a) → Left n begun (fix_operands s t a m at ptr z)
  unfolding fix_operands fix_inputs then_l
  operands_left a at ptr z h = go (run (get_or a (at + 3) 0 % 16) 0 (fix_input s t m at ptr) (listed z a)) (inputs_left (get_or a (at + 3) 0 % 16) 0 at ptr (listed z a) h)
    where
      go : (x : Listed WordSizing) → Left n begun x → Left n begun (then_l x λ y b. fix_output s t b m at ptr y)
      go (listed y b) h = output_left b at ptr y h

  copy_left : (a : List ℕ) (at : ℕ) (x : Slice) (z : WordSizing) → Left n begun (listed z a) → LeftAs n begun (then_l (copy_of a at x) λ r b. listed (finished r z) b)
  unfolding copy_of write_copy then_l
  copy_left a at (Slice.Is part) z h = (rw (put_length, length-set, length-set) h.0, h.1)
  copy_left a at (Slice.No k) z h = h

  subpiece_left : (a : List ℕ) (at : ℕ) (z : WordSizing) → Left n begun (listed z a) → LeftAs n begun (then_l (subpiece_copy a at) λ r b. listed (finished r z) b)
  unfolding subpiece_copy then_l
  subpiece_left a at z h = go (eqb (value_at a at 4).size 65535)
    where
      part : Slice
      part = slice_bytes (value_at a at 6) (get_or a (at + 2) 0 % 65536) (value_at a at 4).size

      go : (b : Bool) → LeftAs n begun (then_l (when b then listed 50 a else copy_of a at part) λ r b. listed (finished r z) b)
      go true = h
      go false = copy_left a at part z h

  fixed_left : (a : List ℕ) (at : ℕ) (z : WordSizing) → Left n begun (listed z a) → LeftAs n begun (finish_fixed a at z)
  unfolding finish_fixed
  fixed_left a at z h = go (eqb (get_or a (at + 1) 0) 66)
    where
      go : (b : Bool) → LeftAs n begun (when b then then_l (subpiece_copy a at) (λ r b. listed (finished r z) b) else listed (finished 0 z) a)
      go true = subpiece_left a at z h
      go false = h

  op_left : (a : List ℕ) (at ptr : ℕ) (z : WordSizing) → Left n begun (listed z a) → LeftAs n begun (finish_op s t a m at ptr z)
  unfolding finish_op then_l
  op_left a at ptr z h = go (eqb (get_or a (at + 0) 0) 0)
    where
      on_fixed : (x : Listed WordSizing) → Left n begun x → LeftAs n begun (then_l x λ y b. finish_fixed b at y)
      on_fixed (listed y b) h = fixed_left b at y h

      go : (b : Bool) → LeftAs n begun (when b then then_l (fix_operands s t a m at ptr z) (λ y b. finish_fixed b at y) else listed (finished 0 z) a)
      go true = on_fixed (fix_operands s t a m at ptr z) (operands_left a at ptr z h)
      go false = h

  from_left : (k i : ℕ) (a : List ℕ) (base ptr : ℕ) (z : WordSizing) → Left n begun (listed z a) → LeftAs n begun (finish_from k i s t a m base ptr z)
  unfolding finish_from
  from_left zero i a base ptr z h = h
  from_left (suc k) i a base ptr z h = go (finish_op s t a m (place base i) ptr z) (op_left a (place base i) ptr z h) (λ b y g. from_left k (suc i) b base ptr y g)
    where
      go : (x : Listed Finished) → LeftAs n begun x → ((b : List ℕ) (y : WordSizing) → Left n begun (listed y b) → LeftAs n begun (finish_from k (suc i) s t b m base ptr y))
          → LeftAs n begun (then_f x λ y b. finish_from k (suc i) s t b m base ptr y)
      go (listed f b) h rec = unfold then_f in test (eqb f.refusal 0)
        where
          test : (c : Bool) → LeftAs n begun (when c then finish_from k (suc i) s t b m base ptr f.z else listed f b)
          test true = rec b f.z h
          test false = h

  pub actions_left : (k : ℕ) (a : List ℕ) (base ptr : ℕ) (z : WordSizing) → length a ≡ n → z.begun ≡ begun → LeftAs n begun (finish_actions s t a m base k ptr z)
  unfolding finish_actions
  actions_left k a base ptr z h i = from_left k 0 a base ptr z (h, i)

-- the definition

-- done with that ordinal begun last, or refused with it and no errors
abbrev pub Begun : {A : Type 0} → Option ℕ → Outcome A → Type 0
Begun begun (done a st) = st.sizing.begun ≡ begun
Begun begun (stopped r ordinal errors) = (ordinal ≡ begun) × (errors ≡ 0)

module _ (e : Env) (begun : Option ℕ) where
  then_begun : {A B : Type 0} (o : Outcome A) (f : A → Walk B) → Begun begun o → ((a : A) (st : State) → st.sizing.begun ≡ begun → Begun begun (f a e st)) → Begun begun (on e o f)
  unfolding on
  then_begun (done a st) f h k = k a st h
  then_begun (stopped r ordinal errors) f h k = h

  fixed-begun : (v : Value) (a : Option ℕ) (z : sizes.Sizing) → (sizes.fix_to e.section v a z).1.begun ≡ z.begun
  unfolding sizes.fix_to
  fixed-begun v none z = refl
  fixed-begun v (some n) z = refl

  size_begun : (v : Value) (z : sizes.Sizing) → (sizes.fix_size e.section v z).1.begun ≡ z.begun
  unfolding sizes.fix_size
  size_begun v z = fixed-begun v _ z

  inputs-begun : (vs : List Value) (z : sizes.Sizing) → (sizes.fix_inputs e.section vs z).1.begun ≡ z.begun
  unfolding sizes.fix_inputs
  inputs-begun [] z = refl
  inputs-begun (v ∷ vs) z = inputs-begun vs (sizes.fix_size e.section v z).1 ∙ size_begun v z

  output-begun : (v : Option Value) (z : sizes.Sizing) → (sizes.fix_output e.section v z).1.begun ≡ z.begun
  unfolding sizes.fix_output
  output-begun none z = refl
  output-begun (some v) z = size_begun v z

  operands-begun : (x : SemanticAction) (z : sizes.Sizing) → (sizes.fix_operands e.section x z).1.begun ≡ z.begun
  unfolding sizes.fix_operands
  operands-begun x z = output-begun x.output (sizes.fix_inputs e.section x.inputs z).1 ∙ inputs-begun x.inputs z

  require-begun : (b : Bool) (r : Refusal) (st : State) → st.sizing.begun ≡ begun → Begun begun (require b r e st)
  unfolding require
  require-begun true r st h = h
  require-begun false r st h = (h, refl)

  expect-begun : {A : Type 0} (r : Refusal) (x : Option A) (st : State) → st.sizing.begun ≡ begun → Begun begun (expect r x e st)
  unfolding expect
  expect-begun r (some a) st h = h
  expect-begun r none st h = (h, refl)

  slices_begun : (more size : ℕ) (vs : List Value) (st : State) → st.sizing.begun ≡ begun → Begun begun (d.sliced_inputs more size vs e st)
  unfolding d.sliced_inputs sliced
  slices_begun more size [] st h = h
  slices_begun more size (v ∷ vs) st h =
      then_begun (sliced more size v e st) _ (then_begun (require (leb (v.offset + more) 65535) offset_too_far e st) _ (require-begun (leb (v.offset + more) 65535) offset_too_far st h) (λ _ q k. k)) (λ part q k. k)

  copy_begun : (x : SemanticAction) (st : State) → st.sizing.begun ≡ begun → Begun begun (d.subpiece_copy x e st)
  unfolding d.subpiece_copy
  copy_begun x st h =
      then_begun (expect subpiece_size (and_then x.output λ (v : Value). v.size) e st) _ (expect-begun subpiece_size (and_then x.output λ (v : Value). v.size) st h)
      (λ size q k. then_begun (d.sliced_inputs x.number size x.inputs e q) _ (slices_begun x.number size x.inputs q k) (λ vs p l. l))

  op-begun : (o : Option Operation) (x : SemanticAction) (st : State) → st.sizing.begun ≡ begun → Begun begun (d.finish_op o x e st)
  unfolding d.finish_op on
  op-begun none x st h = h
  op-begun (some op) x st h = go (is_op Operation.Subpiece op)
    where
      y : SemanticAction
      y = (sizes.fix_operands e.section x st.sizing).0

      u : State
      u = with_sizing (sizes.fix_operands e.section x st.sizing).1 st

      go : (b : Bool) → Begun begun (definition.when◌then◌else◌ b (d.subpiece_copy y) (λ e st. done y st) e u)
      go true = unfold base_opens in copy_begun y u (operands-begun x st.sizing ∙ h)
      go false = unfold base_opens in (operands-begun x st.sizing ∙ h)

  pub actions-begun : (xs : List SemanticAction) (st : State) → st.sizing.begun ≡ begun → Begun begun (d.finish_actions xs e st)
  unfolding d.finish_actions
  actions-begun [] st h = h
  actions-begun (x ∷ xs) st h =
      then_begun (d.finish_op (operation_of x.kind) x e st) _ (op-begun (operation_of x.kind) x st h)
      (λ y q k. then_begun (d.finish_actions xs e q) _ (actions-begun xs q k) (λ ys p l. l))
