-- The inputs of an action: its values, two words each, and zeros behind them.
use mathlib.Core.Path.{◌≡◌, refl, sym, ◌∙◌, ap}
use mathlib.Core.Bool.{Bool, true, false, ◌&&◌}
use Rattle.std.proofs.Math.Bool.{and_assoc}
use mathlib.Core.List.{List, ◌∷◌}
use Prim.Native.Nat.{ℕ, zero, suc, ◌+◌, ◌-◌, ◌*◌, ◌≤◌, ◌<◌}
use native.Mathlib.Omega.{arith}
use lib.ListN.{length, get_or, take, drop, length-drop}
use lib.Seq.{drop-drop, get_or-take, take_all}
use borrow.Author.Tests.{le-leb, lt-leb}
use Rattle.std.specs.List.{list_all}
use Rattle.std.specs.Simd.{first_chunks}
use Rattle.list_checker.specs.Action.{zeros, value_fit, fits, values_fit, inputs_fit}

-- the first chunks of more
pub first_few : (size m n : ℕ) (ws : List ℕ) → n ≤ m → take n (first_chunks size m ws) ≡ first_chunks size n ws
first_few size m zero ws h = refl
first_few size zero (suc n) ws h = absurd (omega arith)
first_few size (suc m) (suc n) ws h = ap (λ rows. take size ws ∷ rows) (first_few size m n (drop size ws) (omega arith))

module _ (t s : ℕ) (sized : Bool) where
  values_all : (n : ℕ) (r : List ℕ) → (list_all (fits t s sized) (first_chunks 2 n r) && zeros (drop (2 * n) r)) ≡ values_fit t s sized n r
  unfolding values_fit
  values_all zero r = refl
  values_all (suc n) r =
      let e : 2 * suc n ≡ 2 + 2 * n = omega arith in
      rw (e, ← drop-drop (2 * n) 2 r, get_or-take 2 r 0 0 (omega arith), get_or-take 2 r 1 0 (omega arith))
      (and_assoc (value_fit t s sized (get_or r 0 0) (get_or r 1 0)) _ _ ∙ ap (λ x. value_fit t s sized (get_or r 0 0) (get_or r 1 0) && x) (values_all n (drop 2 r)))

  module _ (w : List ℕ) (values : List (List ℕ)) (long : length w ≡ 24) (few : get_or w 3 0 ≤ 8) (read : values ≡ first_chunks 2 9 (take 18 (drop 6 w))) where
    inputs_all : (list_all (fits t s sized) (take (get_or w 3 0) values) && zeros (take (24 - (6 + 2 * get_or w 3 0)) (drop (6 + 2 * get_or w 3 0) w))) ≡ inputs_fit t s sized w
    unfolding inputs_fit
    inputs_all =
        let l : length (drop 6 w) ≡ 18 = length-drop 6 w ∙ omega arith in
        let k : length (drop (6 + 2 * get_or w 3 0) w) ≡ 24 - (6 + 2 * get_or w 3 0) = length-drop (6 + 2 * get_or w 3 0) w ∙ omega arith in
        let e : values ≡ first_chunks 2 9 (drop 6 w) = rw (take_all 18 (drop 6 w) (omega arith)) at read in
        let d : drop (6 + 2 * get_or w 3 0) w ≡ drop (2 * get_or w 3 0) (drop 6 w) = sym (drop-drop (2 * get_or w 3 0) 6 w) in
        rw (le-leb (get_or w 3 0) 8 few, e, first_few 2 9 (get_or w 3 0) (drop 6 w) (omega arith), take_all (24 - (6 + 2 * get_or w 3 0)) (drop (6 + 2 * get_or w 3 0) w) (omega arith), d)
        (values_all (get_or w 3 0) (drop 6 w))

    pub inputs_end : (v z : Bool) → v ≡ list_all (fits t s sized) (take (get_or w 3 0) values) → v ≡ true → z ≡ zeros (take (24 - (6 + 2 * get_or w 3 0)) (drop (6 + 2 * get_or w 3 0) w)) → z ≡ inputs_fit t s sized w
    inputs_end v z e h f = rw (← e, ← f, h) at inputs_all

    pub inputs_unfit : (v : Bool) → v ≡ list_all (fits t s sized) (take (get_or w 3 0) values) → v ≡ false → v ≡ inputs_fit t s sized w
    inputs_unfit v e h = h ∙ rw (← e, h) at inputs_all

  pub inputs_many : (w : List ℕ) → 8 < get_or w 3 0 → false ≡ inputs_fit t s sized w
  unfolding inputs_fit
  inputs_many w h = rw (lt-leb (get_or w 3 0) 8 h)

pub ruleset input_laws = (inputs_end, inputs_unfit, inputs_many)
