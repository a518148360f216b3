-- The turns of a loop.
use Rattle.std.specs.Prelude.{ℕ, zero, suc}

-- n turns of f from x, the first with the number i
unfoldable pub run : {A : Type 0} → ℕ → ℕ → (ℕ → A → A) → A → A
run zero i f x = x
run (suc n) i f x = run n (suc i) f (f i x)

-- n turns of f from x, the last with the number 0
unfoldable pub run_down : {A : Type 0} → ℕ → (ℕ → A → A) → A → A
run_down zero f x = x
run_down (suc n) f x = run_down n f (f n x)
