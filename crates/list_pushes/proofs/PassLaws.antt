-- The turns of a pass: the first, one more, the last; and a pass over one action.
use mathlib.Core.Path.{◌≡◌, refl, sym}
use mathlib.Core.Bool.{Bool, true, false}
use mathlib.Core.List.{List}
use Prim.Native.Nat.{ℕ, ◌+◌, ◌-◌, ◌≤◌, ◌<◌}
use native.Mathlib.Omega.{arith}
use Rattle.list_values.specs.declared.sizes.Sizing.{Sizing}
use Rattle.access.specs.Loops.{run, run_down}
use Rattle.list_values.specs.Sizes.{sized, then_s, sum_of_errors, recorded, Counted}
use Rattle.list_values.proofs.SizeLaws.{record_sum}
use Rattle.access.proofs.LoopLaws.{run_again, run_end, down_again, down_end}
use Rattle.list_pushes.specs.Rules.{update_operand_sizes}
use Rattle.list_pushes.specs.Passes.{action_place, update_action, turn, turns, pass}

pub turns_again : {A : Type 0} (b : Bool) (n i k : ℕ) (f : ℕ → A → A) (x y w : A) → i < n → k ≡ turn b n i → turns b n i f x ≡ w → y ≡ f k x → turns b n (i + 1) f y ≡ w
unfolding turn turns
turns_again true n i k f x y w h p e g = run_again n i f x y w h e (rw p at g)
turns_again false n i k f x y w h p e g =
    let c : n - 1 - i ≡ n - i - 1 = omega arith in
    let d : n - (i + 1) ≡ n - i - 1 = omega arith in
    rw d (down_again (n - i) f x y w (omega arith) e (rw (p, c) at g))

pub turns-end : {A : Type 0} (b : Bool) (n i : ℕ) (f : ℕ → A → A) (x w : A) → n ≤ i → turns b n i f x ≡ w → x ≡ w
unfolding turns
turns-end true n i f x w h e = run_end n i f x w h e
turns-end false n i f x w h e = down_end (n - i) f x w (omega arith) e

-- Whatever the errors before, what is left of a pass after i turns, with k errors from them, is the whole pass.
pub record Left (s t : List ℕ) (forward : Bool) (base n ptr : ℕ) (a₀ m₀ : List ℕ) (i k : ℕ) (a m : List ℕ) : Type 0 where
  pub left : (z : Sizing) → turns forward n i (update_action s t forward base ptr) (sized (recorded k z) a m) ≡ pass s t forward a₀ m₀ base n ptr z

module _ (s t : List ℕ) (forward : Bool) (base n ptr : ℕ) (a₀ m₀ : List ℕ) where
  pub left_start : Left s t forward base n ptr a₀ m₀ 0 0 a₀ m₀
  unfolding pass recorded
  left_start = record { left = λ z. refl }

  pub left_again : (i k x y o p : ℕ) (a m a1 m1 : List ℕ) → i < n → o ≡ turn forward n i → p ≡ action_place base o → Left s t forward base n ptr a₀ m₀ i k a m → Counted x a1 m1 (update_operand_sizes s t forward a m p ptr) → y ≡ sum_of_errors k x → Left s t forward base n ptr a₀ m₀ (i + 1) y a1 m1
  left_again i k x y o p a m a1 m1 h f g l e q = record { left = λ z. turns_again forward n i o (update_action s t forward base ptr) (sized (recorded k z) a m) (sized (recorded y z) a1 m1) (pass s t forward a₀ m₀ base n ptr z) h f (l.left z) (step z) }
    where
      step : (z : Sizing) → sized (recorded y z) a1 m1 ≡ update_action s t forward base ptr o (sized (recorded k z) a m)
      step z = unfold update_action then_s in rw (q, record_sum z k x, ← g) (e.counted (recorded k z))

  pub left_end : (i k : ℕ) (a m : List ℕ) → n ≤ i → Left s t forward base n ptr a₀ m₀ i k a m → Counted k a m (pass s t forward a₀ m₀ base n ptr)
  left_end i k a m h l = record { counted = λ z. turns-end forward n i (update_action s t forward base ptr) (sized (recorded k z) a m) (pass s t forward a₀ m₀ base n ptr z) h (l.left z) }

pub ruleset pass_laws = (left_start, left_again, left_end)

-- a pass over one action
pub pass_one : (s t a m a1 m1 : List ℕ) (at ptr k : ℕ) (z : Sizing) → Counted k a1 m1 (pass s t false a m at 1 ptr) → update_operand_sizes s t false a m at ptr z ≡ sized (recorded k z) a1 m1
unfolding pass turns run_down update_action action_place then_s
pass_one s t a m a1 m1 at ptr k z h = sym (h.counted z)

module _ (s t a m : List ℕ) (base n ptr : ℕ) (z : Sizing) where
  none : n - 0 ≡ n
  none = omega arith

  pub pass_forward : pass s t true a m base n ptr z ≡ run n 0 (update_action s t true base ptr) (sized z a m)
  unfolding pass turns
  pass_forward = rw none

  pub pass_backward : pass s t false a m base n ptr z ≡ run_down n (update_action s t false base ptr) (sized z a m)
  unfolding pass turns
  pass_backward = rw none
