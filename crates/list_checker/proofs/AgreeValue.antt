-- A value's two words: read as a value, and asked whether they fit.
use Rattle.std.proofs.lemmas.Bool.Decides.{nat_tests}
use Prim.Native.Nat.{ℕ, zero, suc, ◌+◌, ◌*◌, ◌/◌, ◌%◌, ◌^◌, ◌≤◌, ◌<◌}
use mathlib.Core.Path.{◌≡◌, refl, ap}
use mathlib.Core.Bool.{Bool, true, false, ◌&&◌, not}
use Rattle.std.proofs.Math.Bool.{and-true}
use mathlib.Core.List.{List, [], ◌∷◌, ◌++◌}
use mathlib.Core.Option.{none, some}
use native.Mathlib.Omega.{arith}
use lib.ListN.{length, get_or, drop, get_elem?}
use lib.Dec.{eqb, ltb}
use borrow.Author.Tests.{le-ltb, le-leb, eq-eqb, ne_eqb, ltb-true}
use Rattle.prelude.specs.Base.{when◌then◌else◌, or_else, and_then, all, same_numbers}
use Rattle.definition.specs.Value.{Kind, kind_number, Value}
use Rattle.definition.specs.ActionList.{or_none, value_words, input_words, filled}
use Rattle.definition.specs.Checker.{kinds, size_from, value_from, inputs_from, number_fits, value_fits}
use Rattle.list_checker.specs.Action.{zeros, number_fit, value_fit, values_fit}

-- Readings that are total.

unfoldable pub kind_of : ℕ → Kind
kind_of n = or_else Kind.Constant (get_elem? kinds n)

unfoldable pub value_of : ℕ → ℕ → Value
value_of number word = record { kind = kind_of (word % 256); number = number; offset = word / 256 % 65536; size = size_from (word / 16777216) }

unfoldable pub known : ℕ → Bool
known word = ltb (word % 256) 8

kind_from : (m : ℕ) → get_elem? kinds m ≡ (when ltb m 8 then some (kind_of m) else none)
unfolding kinds kind_of or_else
kind_from zero = refl
kind_from (suc zero) = refl
kind_from (suc (suc zero)) = refl
kind_from (suc (suc (suc zero))) = refl
kind_from (suc (suc (suc (suc zero)))) = refl
kind_from (suc (suc (suc (suc (suc zero))))) = refl
kind_from (suc (suc (suc (suc (suc (suc zero)))))) = refl
kind_from (suc (suc (suc (suc (suc (suc (suc zero))))))) = refl
kind_from (suc (suc (suc (suc (suc (suc (suc (suc m)))))))) = rw (le-ltb (suc (suc (suc (suc (suc (suc (suc (suc m)))))))) 8 (omega arith))

kind_back : (m : ℕ) → m < 8 → kind_number (kind_of m) ≡ m
unfolding kinds kind_of kind_number or_else
kind_back zero h = refl
kind_back (suc zero) h = refl
kind_back (suc (suc zero)) h = refl
kind_back (suc (suc (suc zero))) h = refl
kind_back (suc (suc (suc (suc zero)))) h = refl
kind_back (suc (suc (suc (suc (suc zero))))) h = refl
kind_back (suc (suc (suc (suc (suc (suc zero)))))) h = refl
kind_back (suc (suc (suc (suc (suc (suc (suc zero))))))) h = refl
kind_back (suc (suc (suc (suc (suc (suc (suc (suc m)))))))) h = absurd (omega arith)

number_fit_lem : (t s m n : ℕ) → (ltb m 8 && number_fits t s (kind_of m) n) ≡ number_fit t s m n
unfolding kinds kind_of number_fits number_fit or_else
number_fit_lem t s zero n = refl
number_fit_lem t s (suc zero) n = refl
number_fit_lem t s (suc (suc zero)) n = refl
number_fit_lem t s (suc (suc (suc zero))) n = refl
number_fit_lem t s (suc (suc (suc (suc zero)))) n = refl
number_fit_lem t s (suc (suc (suc (suc (suc zero))))) n = refl
number_fit_lem t s (suc (suc (suc (suc (suc (suc zero)))))) n = refl
number_fit_lem t s (suc (suc (suc (suc (suc (suc (suc zero))))))) n = refl
number_fit_lem t s (suc (suc (suc (suc (suc (suc (suc (suc m)))))))) n = go (suc (suc (suc (suc (suc (suc (suc (suc m)))))))) (omega arith)
  where
    go : (k : ℕ) → 8 ≤ k → (ltb k 8 && number_fits t s (kind_of k) n) ≡ number_fit t s k n
    go k h = rw (le-ltb k 2 (omega arith), le-ltb k 4 (omega arith), le-ltb k 6 (omega arith), ne_eqb k 6 (λ z. omega arith), ne_eqb k 7 (λ z. omega arith), le-ltb k 8 h)

pub value_from_lem : (n x : ℕ) → value_from n x ≡ (when known x then some (value_of n x) else none)
unfolding value_from value_of known and_then
value_from_lem n x = rw (kind_from (x % 256)) (go (ltb (x % 256) 8))
  where
    go : (b : Bool) → and_then {B = Value} (when b then some (kind_of (x % 256)) else none) (λ k. some (record { kind = k; number = n; offset = x / 256 % 65536; size = size_from (x / 2 ^ 24) })) ≡ (when b then some (record { kind = kind_of (x % 256); number = n; offset = x / 256 % 65536; size = size_from (x / 16777216) }) else none)
    go true = refl
    go false = refl

pub size_back : (z : ℕ) → or_none (size_from z) ≡ z
unfolding or_none size_from or_else
size_back z = grind (arith, nat_tests)

word_back : (x : ℕ) → x % 256 + 256 * (x / 256 % 65536) + 16777216 * (x / 16777216) ≡ x
word_back x = omega arith

pub value_back : (n x : ℕ) → known x ≡ true → value_words (value_of n x) ≡ n ∷ x ∷ []
unfolding value_words value_of known
value_back n x h = rw (kind_back (x % 256) (ltb-true _ _ h), size_back (x / 16777216), word_back x)

size_fit : (x : ℕ) → ltb (or_else 0 (size_from (x / 16777216))) 65535 ≡ ltb x 1099511627776
unfolding or_else size_from
size_fit x = grind (arith, nat_tests)

pub value_fit_lem : (t s n x : ℕ) → (known x && value_fits t s (value_of n x)) ≡ value_fit t s false n x
unfolding value_fits value_of known value_fit
value_fit_lem t s n x =
    rw (le-leb (x / 256 % 65536) 65535 (omega arith), size_fit x, ← number_fit_lem t s (x % 256) n) (go (ltb (x % 256) 8) (number_fits t s (kind_of (x % 256)) n) (ltb x 1099511627776))
  where
    go : (a b c : Bool) → (a && (b && true && c)) ≡ (c && true && (a && b))
    go false b true = refl
    go false b false = refl
    go true false true = refl
    go true false false = refl
    go true true true = refl
    go true true false = refl

-- a value that is to be sized
pub value_sized : (t s n x : ℕ) → value_fit t s true n x ≡ (value_fit t s false n x && not (eqb (x / 16777216) 65535))
unfolding value_fit
value_sized t s n x = grind (arith, nat_tests)

-- Inputs.

unfoldable pub inputs_of : ℕ → List ℕ → List Value
inputs_of zero r = []
inputs_of (suc n) r = value_of (get_or r 0 0) (get_or r 1 0) ∷ inputs_of n (drop 2 r)

unfoldable pub inputs_known : ℕ → List ℕ → Bool
inputs_known zero r = true
inputs_known (suc n) r = known (get_or r 1 0) && inputs_known n (drop 2 r)

pub inputs_from_lem : (n : ℕ) (r : List ℕ) → inputs_from n r ≡ (when inputs_known n r then some (inputs_of n r) else none)
unfolding inputs_from inputs_known inputs_of and_then
inputs_from_lem zero r = refl
inputs_from_lem (suc n) r = rw (value_from_lem (get_or r 0 0) (get_or r 1 0), inputs_from_lem n (drop 2 r)) (go (known (get_or r 1 0)) (inputs_known n (drop 2 r)))
  where
    go : (a b : Bool) → and_then (when a then some (value_of (get_or r 0 0) (get_or r 1 0)) else none) (λ v. and_then (when b then some (inputs_of n (drop 2 r)) else none) (λ vs. some (v ∷ vs))) ≡ (when a && b then some (value_of (get_or r 0 0) (get_or r 1 0) ∷ inputs_of n (drop 2 r)) else none)
    go false b = refl
    go true false = refl
    go true true = refl

pub inputs_length : (n : ℕ) (r : List ℕ) → length (inputs_of n r) ≡ n
unfolding inputs_of
inputs_length zero r = refl
inputs_length (suc n) r = ap suc (inputs_length n (drop 2 r))

pub same-zeros : (r : List ℕ) → same_numbers r (filled (length r) []) ≡ zeros r
unfolding same_numbers filled
same-zeros [] = refl
same-zeros (x ∷ r) = rw (same-zeros r) (go (eqb x 0))
  where
    go : (b : Bool) → (when b then zeros r else false) ≡ (b && zeros r)
    go true = refl
    go false = refl

-- the inputs are read, written as the same words, and fit
pub inputs_fit_lem : (t s n : ℕ) (r : List ℕ) → 2 * n ≤ length r →
    (inputs_known n r && (same_numbers r (filled (length r) (input_words (inputs_of n r))) && all (value_fits t s) (inputs_of n r))) ≡ values_fit t s false n r
unfolding inputs_known inputs_of values_fit input_words all same_numbers filled
inputs_fit_lem t s zero r h = rw (same-zeros r) (and-true (zeros r))
inputs_fit_lem t s (suc n) [] h = absurd (omega arith)
inputs_fit_lem t s (suc n) (x ∷ []) h = absurd (omega arith)
inputs_fit_lem t s (suc n) (x ∷ y ∷ r) h = rw (← value_fit_lem t s x y, ← inputs_fit_lem t s n r (omega arith)) (go (known y) refl)
  where
    turn : (k b f g : Bool) → (k && (b && (when f then g else false))) ≡ (f && (k && (b && g)))
    turn false b true g = refl
    turn false b false g = refl
    turn true false true g = refl
    turn true false false g = refl
    turn true true true g = refl
    turn true true false g = refl

    go : (k : Bool) → known y ≡ k →
        (k && inputs_known n r && (same_numbers (x ∷ y ∷ r) (filled (suc (suc (length r))) (value_words (value_of x y) ++ input_words (inputs_of n r))) && (when value_fits t s (value_of x y) then all (value_fits t s) (inputs_of n r) else false)))
        ≡ (k && value_fits t s (value_of x y) && (inputs_known n r && (same_numbers r (filled (length r) (input_words (inputs_of n r))) && all (value_fits t s) (inputs_of n r))))
    go false e = refl
    go true e = rw (value_back x y e, eq-eqb x x refl, eq-eqb y y refl) (turn (inputs_known n r) (same_numbers r (filled (length r) (input_words (inputs_of n r)))) (value_fits t s (value_of x y)) (all (value_fits t s) (inputs_of n r)))
