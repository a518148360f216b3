-- A pass whose errors are recorded is the one of `list_pushes`.
use Rattle.std.proofs.Common.{◌≡◌, ℕ, Bool, true, false, List, ◌∙◌}
use Rattle.list_values.specs.declared.sizes.Sizing.{Sizing}
use Rattle.list_values.specs.Sizes.{sized, recorded, Counted}
use Rattle.list_pushes.specs.Passes.{pass}
use Rattle.list_pushes.proofs.PassLaws.{pass_forward, pass_backward}
use Rattle.list_end.specs.Passes.{size_pass}

pub size_pass_is : (forward : Bool) (s t a m : List ℕ) (base n ptr : ℕ) (z : Sizing) → pass s t forward a m base n ptr z ≡ size_pass s t forward a m base n ptr z
unfolding size_pass
size_pass_is true s t a m base n ptr z = pass_forward s t a m base n ptr z
size_pass_is false s t a m base n ptr z = pass_backward s t a m base n ptr z

pub size_pass_law : (s t a m a1 m1 : List ℕ) (forward : Bool) (base n ptr k : ℕ) (z : Sizing) → Counted k a1 m1 (pass s t forward a m base n ptr) → sized (recorded k z) a1 m1 ≡ size_pass s t forward a m base n ptr z
size_pass_law s t a m a1 m1 forward base n ptr k z h = h.counted z ∙ size_pass_is forward s t a m base n ptr z
