-- A scope's parameters and locals stay where other words of its list change.
use Prim.Native.Nat.{ℕ, suc, ◌+◌, ◌*◌, ◌≤◌, ◌<◌}
use mathlib.Core.Path.{◌≡◌, ◌∙◌}
use mathlib.Core.List.{List, [], ◌∷◌}
use native.Mathlib.Omega.{arith}
use lib.ListN.{length, get_or}
use Rattle.definition.specs.Walk.{ExprValue}
use Rattle.list_values.specs.Values.{value_at}
use Rattle.expr_scope.specs.Slots.{slot_at, param_place}
use Rattle.expr_refinement.specs.Encoding.{ParamsIn}

pub slot_same : (p q : List ℕ) (at : ℕ) → ((i : ℕ) → i < at + 8 → get_or q i 0 ≡ get_or p i 0) → slot_at q at ≡ slot_at p at
unfolding slot_at value_at
slot_same p q at h = rw (h (at + 1) (omega arith), h (at + 2) (omega arith), h (at + 3) (omega arith), h (at + 4) (omega arith), h (at + 5) (omega arith), h (at + 6) (omega arith), h (at + 7) (omega arith))

place-below : (i : ℕ) → param_place i + 8 ≤ 64
unfolding param_place
place-below i = omega arith

place_within : (i : ℕ) → param_place i + 8 ≤ 8 * suc i
unfolding param_place
place_within i = omega arith

pub params_same : (p q : List ℕ) (ps : List (ℕ × ExprValue)) → ((i : ℕ) → i < 64 → i < 8 * length ps → get_or q i 0 ≡ get_or p i 0) → ParamsIn p ps → ParamsIn q ps
params_same p q [] h g = tt
params_same p q (x ∷ xs) h g =
    let l = place-below (length xs) in
    let k = place_within (length xs) in (
      h (param_place (length xs) + 0) (omega arith) (omega arith) ∙ g.0,
      rw (slot_same p q (param_place (length xs)) (λ i j. h i (omega arith) (omega arith))) g.1,
      params_same p q xs (λ i a b. h i a (omega arith)) g.2,
    )
