-- Slots: what an expression means, written into eight words, is read back as it was.
use Prim.Native.Nat.{ℕ, zero, suc, ◌+◌, ◌*◌, ◌/◌, ◌%◌, ◌≤◌, ◌<◌}
use mathlib.Core.Path.{◌≡◌, refl, ◌∙◌, ap}
use mathlib.Core.Bool.{true}
use mathlib.Core.List.{List, [], ◌∷◌}
use native.Mathlib.Nat.{add-zero}
use native.Mathlib.Omega.{arith}
use lib.ListN.{length, get_or, set, length-set}
use lib.Seq.{get_or-set_same, get_or-set_other}
use lib.Dec.{ltb}
use borrow.Author.Tests.{ltb-true}
use Rattle.definition.specs.Operations.{Operation, operation_number}
use Rattle.definition.proofs.EveryOperation.{alike}
use Rattle.definition.specs.Value.{Value}
use Rattle.definition.specs.Ast.{Section}
use Rattle.definition.specs.Walk.{ExprValue}
use Rattle.definition.proofs.Openers.{operations_opens}
use Rattle.list_values.specs.Values.{absent, word, value_of, value_at, put_value}
use Rattle.list_refinement.specs.Encoding.{enc_v, Sound, Each, first_of, second_of}
use Rattle.list_refinement.proofs.Operands.{word_is, value_back}
use Rattle.expr_scope.specs.declared.scope.ExprValue.{ExprValue as WordExpr}
use Rattle.expr_scope.specs.declared.scope.Slot.{Slot}
use Rattle.expr_scope.specs.Slots.{slot, slot_of, of_parts, of_slot, put_slot, slot_at, param_place, arg_at, put_arg}
use Rattle.expr_refinement.specs.Encoding.{enc_x, SoundX}

-- writing one word after another

unfoldable fill : List ℕ → ℕ → ℕ → List ℕ → List ℕ
fill p at k [] = p
fill p at k (v ∷ vs) = fill (set p (at + k) v) at (suc k) vs

fill_length : (vs p : List ℕ) (at k : ℕ) → length (fill p at k vs) ≡ length p
unfolding fill
fill_length [] p at k = refl
fill_length (v ∷ vs) p at k = fill_length vs (set p (at + k) v) at (suc k) ∙ length-set p (at + k) v

fill_before : (vs p : List ℕ) (at k i : ℕ) → i < at + k → get_or (fill p at k vs) i 0 ≡ get_or p i 0
unfolding fill
fill_before [] p at k i h = refl
fill_before (v ∷ vs) p at k i h = fill_before vs (set p (at + k) v) at (suc k) i (omega arith) ∙ get_or-set_other p (at + k) i v 0 (λ q. omega arith)

fill_behind : (vs p : List ℕ) (at k i : ℕ) → at + k + length vs ≤ i → get_or (fill p at k vs) i 0 ≡ get_or p i 0
unfolding fill
fill_behind [] p at k i h = refl
fill_behind (v ∷ vs) p at k i h = fill_behind vs (set p (at + k) v) at (suc k) i (omega arith) ∙ get_or-set_other p (at + k) i v 0 (λ q. omega arith)

fill-get : (vs p : List ℕ) (at k i : ℕ) → at + k + length vs ≤ length p → i < length vs → get_or (fill p at k vs) (at + (k + i)) 0 ≡ get_or vs i 0
unfolding fill
fill-get [] p at k i h j = absurd (omega arith)
fill-get (v ∷ vs) p at k zero h j = rw (add-zero k) (fill_before vs (set p (at + k) v) at (suc k) (at + k) (omega arith) ∙ get_or-set_same p (at + k) v 0 (omega arith))
fill-get (v ∷ vs) p at k (suc i) h j =
    let q : k + suc i ≡ suc k + i = omega arith in
    rw q (fill-get vs (set p (at + k) v) at (suc k) i (rw (length-set p (at + k) v) (omega arith)) (omega arith))

-- the words of a slot behind its name
abbrev slot_words : Slot → List ℕ
slot_words k = k.tag ∷ k.x ∷ k.y ∷ k.a.number ∷ word k.a ∷ k.b.number ∷ word k.b ∷ []

put_fill : (p : List ℕ) (at : ℕ) (k : Slot) → put_slot p at k ≡ fill p at 1 (slot_words k)
unfolding put_slot put_value fill
put_fill p at k = refl

pub put_length : (p : List ℕ) (at : ℕ) (k : Slot) → length (put_slot p at k) ≡ length p
put_length p at k = rw (put_fill p at k) (fill_length (slot_words k) p at 1)

pub put_before : (p : List ℕ) (at : ℕ) (k : Slot) (i : ℕ) → i < at + 1 → get_or (put_slot p at k) i 0 ≡ get_or p i 0
put_before p at k i h = rw (put_fill p at k) (fill_before (slot_words k) p at 1 i h)

pub put_behind : (p : List ℕ) (at : ℕ) (k : Slot) (i : ℕ) → at + 8 ≤ i → get_or (put_slot p at k) i 0 ≡ get_or p i 0
put_behind p at k i h = rw (put_fill p at k) (fill_behind (slot_words k) p at 1 i (omega arith))

-- the slot with its values as their words are read
unfoldable pub read_as : Slot → Slot
read_as k = slot k.tag k.x k.y (value_of k.a.number (word k.a)) (value_of k.b.number (word k.b))

pub put_at : (p : List ℕ) (at : ℕ) (k : Slot) → at + 8 ≤ length p → slot_at (put_slot p at k) at ≡ read_as k
unfolding slot_at value_at read_as
put_at p at k h =
    rw (put_fill p at k)
    (rw (
      fill-get (slot_words k) p at 1 0 (omega arith) (omega arith),
      fill-get (slot_words k) p at 1 1 (omega arith) (omega arith),
      fill-get (slot_words k) p at 1 2 (omega arith) (omega arith),
      fill-get (slot_words k) p at 1 3 (omega arith) (omega arith),
      fill-get (slot_words k) p at 1 4 (omega arith) (omega arith),
      fill-get (slot_words k) p at 1 5 (omega arith) (omega arith),
      fill-get (slot_words k) p at 1 6 (omega arith) (omega arith),
    ))

-- values

value_again : {sec : Section} {n : ℕ} (v : Value) → Sound sec n v → value_of v.number (word (enc_v v)) ≡ enc_v v
value_again v f = rw (word_is v f.offset f.size) (value_back v f.offset f.size)

absent_again : value_of 0 (word absent) ≡ absent
unfolding value_of word
absent_again = refl

first_again : (sec : Section) (n : ℕ) (vs : List Value) → Each (Sound sec n) vs → value_of (first_of vs).number (word (first_of vs)) ≡ first_of vs
unfolding first_of
first_again sec n [] h = absent_again
first_again sec n (v ∷ vs) h = value_again v h.0

second_again : (sec : Section) (n : ℕ) (vs : List Value) → Each (Sound sec n) vs → value_of (second_of vs).number (word (second_of vs)) ≡ second_of vs
unfolding second_of
second_again sec n [] h = absent_again
second_again sec n (u ∷ []) h = absent_again
second_again sec n (u ∷ v ∷ vs) h = value_again v h.1.0

pub op-small : (op : Operation) → operation_number op < 67
unfolding operations_opens
op-small op = ltb-true _ _ (alike (λ op. ltb (operation_number op) 67) (λ op. true) refl op)

small-part : (a : ℕ) → a < 256 → a % 256 ≡ a
small-part a h = omega arith

low_part : (a b : ℕ) → a < 256 → (a + b * 256) % 256 ≡ a
low_part a b h = omega arith

high_part : (a b : ℕ) → a < 256 → (a + b * 256) / 256 ≡ b
high_part a b h = omega arith

-- a slot gives back what was put into it
slot_back : (sec : Section) (n : ℕ) (x : ExprValue) → SoundX sec n x → of_slot (read_as (slot_of (enc_x x))) ≡ enc_x x
unfolding of_slot read_as slot_of enc_x of_parts
slot_back sec n (ExprValue.Local v) h = rw (value_again v h)
slot_back sec n (ExprValue.Unbound v) h = rw (value_again v h)
slot_back sec n (ExprValue.Const c z) h = refl
slot_back sec n (ExprValue.Apply op c vs) h =
    let l = op-small op in
    let few = h.0 in
    let p = small-part (operation_number op) (omega arith) in
    let q = small-part (length vs) (omega arith) in
    rw (p, q, low_part (operation_number op) (length vs) (omega arith), high_part (operation_number op) (length vs) (omega arith), first_again sec n vs h.2, second_again sec n vs h.2)
slot_back sec n (ExprValue.RamRef v z) h = rw (value_again v h.0)
slot_back sec n (ExprValue.RegisterRef v z) h = rw (value_again v h.0)
slot_back sec n (ExprValue.AddressOf v z) h = rw (value_again v h.0)
slot_back sec n (ExprValue.BitRange v from bits) h = rw (value_again v h.0)

pub slot_again : (sec : Section) (n : ℕ) (p : List ℕ) (at : ℕ) (x : ExprValue) → at + 8 ≤ length p → SoundX sec n x → of_slot (slot_at (put_slot p at (slot_of (enc_x x))) at) ≡ enc_x x
slot_again sec n p at x h f = rw (put_at p at (slot_of (enc_x x)) h) (slot_back sec n x f)

-- a slot before or behind another
pub data Apart (at i : ℕ) : Type 0 where
  before : i + 8 ≤ at → Apart at i
  behind : at + 8 ≤ i → Apart at i

-- another slot stays
pub slot_other : (p : List ℕ) (at i : ℕ) (k : Slot) → Apart at i → slot_at (put_slot p at k) i ≡ slot_at p i
unfolding slot_at value_at
slot_other p at i k h = rw (get 1 (omega arith), get 2 (omega arith), get 3 (omega arith), get 4 (omega arith), get 5 (omega arith), get 6 (omega arith), get 7 (omega arith))
  where
    get : (j : ℕ) → j < 8 → get_or (put_slot p at k) (i + j) 0 ≡ get_or p (i + j) 0
    get j l = go h
      where
        go : Apart at i → get_or (put_slot p at k) (i + j) 0 ≡ get_or p (i + j) 0
        go (before q) = put_before p at k (i + j) (omega arith)
        go (behind q) = put_behind p at k (i + j) (omega arith)

-- arguments

pub arg_length : (args : List ℕ) (i : ℕ) (x : WordExpr) → length (put_arg args i x) ≡ length args
unfolding put_arg
arg_length args i x = put_length args (param_place i) (slot_of x)

pub arg_again : (sec : Section) (n : ℕ) (args : List ℕ) (i : ℕ) (x : ExprValue) → 64 ≤ length args → SoundX sec n x → arg_at (put_arg args i (enc_x x)) i ≡ enc_x x
unfolding arg_at put_arg param_place
arg_again sec n args i x h f = slot_again sec n args (i % 8 * 8) x (omega arith) f

pub arg_other : (args : List ℕ) (i j : ℕ) (x : WordExpr) → i < j → j < 8 → arg_at (put_arg args j x) i ≡ arg_at args i
unfolding arg_at put_arg param_place
arg_other args i j x h l = ap of_slot (slot_other args (j % 8 * 8) (i % 8 * 8) (slot_of x) (before (omega arith)))

-- what stands behind the slots stays
pub arg_behind : (args : List ℕ) (i : ℕ) (x : WordExpr) (j : ℕ) → 64 ≤ j → get_or (put_arg args i x) j 0 ≡ get_or args j 0
unfolding put_arg param_place
arg_behind args i x j h = put_behind args (i % 8 * 8) (slot_of x) j (omega arith)
