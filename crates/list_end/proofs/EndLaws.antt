-- One law for each way out of the functions of the end.
use Rattle.std.proofs.Common.{◌≡◌, ℕ, suc, ◌+◌, ◌-◌, ◌/◌, ◌<◌, ◌≤◌, List, get_or, sym, refl, arith, ne_eqb}
use lib.Seq.{set-get_or}
use Rattle.list_values.specs.declared.value.Value.{Value}
use Rattle.list_values.specs.declared.sizes.Sizing.{Sizing}
use Rattle.std.specs.Prelude.{Ok, Err}
use Rattle.codes.specs.Refusals.{number}
use Rattle.codes.proofs.Numbers.{number-nonzero}
use Rattle.list_end.specs.declared.end.Unfinished.{Unfinished}
use Rattle.list_end.specs.Outcomes.{Finished, to_finished}
use Rattle.list_values.specs.Base.{Listed, listed}
use Rattle.list_values.specs.Values.{with_size, word, value_of, value_at, put_value, place}
use Rattle.list_values.specs.Sizes.{size_of}
use Rattle.list_end.specs.End.{fixed, finished, fix_size, put_fixed, fix_operand, finish_op, then_f, finish_from, finish_actions}

fix_known : (s t m : List ℕ) (v w : Value) (ptr : ℕ) (z : Sizing) (known : ℕ) → known ≡ size_of s t m v → (known ≡ 65535 → ⊥) → w ≡ with_size known v → fixed w z ≡ fix_size s t m v ptr z
unfolding fix_size
fix_known s t m v w ptr z known p h e = rw (← p, ne_eqb known 65535 h, e)

-- an operand with a size of its own is written back as it is
word_back : (n w : ℕ) → w / 16777216 < 65535 → word (value_of n w) ≡ w
unfolding word value_of
word_back n w h = omega arith

put_back : (a : List ℕ) (at i : ℕ) → get_or a (at + (i + 1)) 0 / 16777216 < 65535 → put_value a at i (value_at a at i) ≡ a
unfolding put_value value_at value_of
put_back a at i h = rw (word_back (get_or a (at + i) 0) (get_or a (at + (i + 1)) 0) h, set-get_or a (at + i) 0, set-get_or a (at + (i + 1)) 0)

pub fix_sized : (s t a m : List ℕ) (at i ptr w : ℕ) (z : Sizing) → w ≡ get_or a (at + (i + 1)) 0 → w / 16777216 < 65535 → listed z a ≡ fix_operand s t a m at i ptr z
unfolding fix_operand put_fixed
fix_sized s t a m at i ptr w z e h = sym (rw (← fix_known s t m (value_at a at i) (value_at a at i) ptr z (value_at a at i).size own other refl) (rw (put_back a at i (rw (← e) h))))
  where
    other : (value_at a at i).size ≡ 65535 → ⊥
    other k = unfold value_at value_of in absurd (omega (arith, k, e, h))

    own : (value_at a at i).size ≡ size_of s t m (value_at a at i)
    own = unfold size_of in rw (ne_eqb (value_at a at i).size 65535 other)

pub finish_start : (s t a m : List ℕ) (base n ptr : ℕ) (z : Sizing) → finish_from (n - 0) 0 s t a m base ptr z ≡ finish_actions s t a m base n ptr z
unfolding finish_actions
finish_start s t a m base n ptr z = let k : n - 0 ≡ n = omega arith in rw k

module _ (s t a m : List ℕ) (base n ptr i : ℕ) (z : Sizing) (w : Listed Finished) (inv : finish_from (n - i) i s t a m base ptr z ≡ w) where
  pub finish_end : n ≤ i → listed (finished 0 z) a ≡ w
  unfolding finish_from
  finish_end h = let k : n - i ≡ 0 = omega arith in rw k at inv

  module _ (p : ℕ) (f : Finished) (a1 : List ℕ) (h : i < n) (q : p ≡ place base i) (e : listed f a1 ≡ finish_op s t a m p ptr z) where
    turn : then_f (listed f a1) (λ y b. finish_from (n - (i + 1)) (i + 1) s t b m base ptr y) ≡ w
    unfolding finish_from
    turn =
        let k : n - i ≡ suc (n - (i + 1)) = omega arith in
        let o : i + 1 ≡ suc i = omega arith in
        rw (e, q, o) (rw (k, o) at inv)

    pub finish_stop : (u : Unfinished) → f ≡ to_finished (Err u) → listed f a1 ≡ w
    unfolding then_f
    finish_stop u k = let d = number-nonzero u.refusal in rw k (rw (k, ne_eqb (number u.refusal) 0 d) at turn)

    pub finish_more : (y : Sizing) → f ≡ to_finished (Ok y) → finish_from (n - (i + 1)) (i + 1) s t a1 m base ptr y ≡ w
    unfolding then_f
    finish_more y k = rw k at turn

pub ruleset finish_laws = (finish_start, finish_end, finish_more)
