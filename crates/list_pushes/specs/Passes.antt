-- A pass over the n actions from a position on: forward with fallback, or backward without. In all of these s is the stream,
-- t the section's table, a the actions, m the temporaries, z the record of errors, ptr the pointer size.
use Rattle.std.specs.Prelude.{ℕ, ◌-◌, Bool, List, eqb}
use Rattle.list_values.specs.declared.sizes.Sizing.{Sizing}
use Rattle.prelude.specs.Base.{when◌then◌else◌}
use Rattle.access.specs.Loops.{run, run_down}
use Rattle.list_values.specs.Values.{place}
use Rattle.list_values.specs.Sizes.{Sized, sized, then_s}
use Rattle.list_pushes.specs.Rules.{update_operand_sizes}

-- where action i stands; the first may stand anywhere
unfoldable pub action_place : ℕ → ℕ → ℕ
action_place base i = when eqb i 0 then base else place base i

-- the rule of action i
unfoldable pub update_action : List ℕ → List ℕ → Bool → ℕ → ℕ → ℕ → Sized → Sized
update_action s t fallback base ptr i x = then_s x λ z a m. update_operand_sizes s t fallback a m (action_place base i) ptr z

-- which of n is next after i of them
unfoldable pub turn : Bool → ℕ → ℕ → ℕ
turn forward n i = when forward then i else n - 1 - i

-- what is left of n turns after i of them
unfoldable pub turns : {A : Type 0} → Bool → ℕ → ℕ → (ℕ → A → A) → A → A
turns forward n i f x = when forward then run (n - i) i f x else run_down (n - i) f x

unfoldable pub pass : List ℕ → List ℕ → Bool → List ℕ → List ℕ → ℕ → ℕ → ℕ → Sizing → Sized
pass s t forward a m base n ptr z = turns forward n 0 (update_action s t forward base ptr) (sized z a m)
