-- The small numbers of a scope: one law for each way out of their functions, and what a number is after one is put.
use mathlib.Core.Path.{◌≡◌, refl}
use mathlib.Core.Logic.{◌≢◌}
use mathlib.Core.Bool.{Bool, true, false}
use mathlib.Core.List.{List}
use Prim.Native.Nat.{ℕ, zero, suc, ◌+◌, ◌-◌, ◌*◌, ◌/◌, ◌%◌, ◌^◌, ◌≤◌, ◌<◌}
use native.Mathlib.Omega.{arith}
use lib.ListN.{length, get_or, set, length-set}
use lib.Seq.{get_or-set_same, get_or-set_other}
use lib.Dec.{eqb}
use borrow.Author.Tests.{eqb-true, eqb-false}
use Rattle.expr_scope.specs.Smalls.{unit, small_of, with_small, small, put_small}

-- the six places of a word
below_six : (P : ℕ → Type 0) → P 0 → P 1 → P 2 → P 3 → P 4 → P 5 → (k : ℕ) → k < 6 → P k
below_six P a b c d e f zero h = a
below_six P a b c d e f (suc zero) h = b
below_six P a b c d e f (suc (suc zero)) h = c
below_six P a b c d e f (suc (suc (suc zero))) h = d
below_six P a b c d e f (suc (suc (suc (suc zero)))) h = e
below_six P a b c d e f (suc (suc (suc (suc (suc zero))))) h = f
below_six P a b c d e f (suc (suc (suc (suc (suc (suc k)))))) h = absurd (omega arith)

-- ---- the code's shifts
module _ (w n : ℕ) (wide : w < 2 ^ 64) where
  -- the number that stands there, shifted back
  shifted_old : (k : ℕ) → k < 6 → w / 2 ^ (10 * k) % 1024 * 2 ^ (10 * k) % 2 ^ 64 ≡ w / 2 ^ (10 * k) % 1024 * 2 ^ (10 * k)
  shifted_old = below_six (λ k. w / 2 ^ (10 * k) % 1024 * 2 ^ (10 * k) % 2 ^ 64 ≡ w / 2 ^ (10 * k) % 1024 * 2 ^ (10 * k))
      (omega arith) (omega arith) (omega arith) (omega arith) (omega arith) (omega arith)

  shifted_new : (k : ℕ) → k < 6 → n % 1024 * 2 ^ (10 * k) % 2 ^ 64 ≡ n % 1024 * 2 ^ (10 * k)
  shifted_new = below_six (λ k. n % 1024 * 2 ^ (10 * k) % 2 ^ 64 ≡ n % 1024 * 2 ^ (10 * k))
      (omega arith) (omega arith) (omega arith) (omega arith) (omega arith) (omega arith)

  within : (k : ℕ) → k < 6 → w / 2 ^ (10 * k) % 1024 * 2 ^ (10 * k) ≤ w
  within = below_six (λ k. w / 2 ^ (10 * k) % 1024 * 2 ^ (10 * k) ≤ w)
      (omega arith) (omega arith) (omega arith) (omega arith) (omega arith) (omega arith)

  fits : (k : ℕ) → k < 6 → w - w / 2 ^ (10 * k) % 1024 * 2 ^ (10 * k) + n % 1024 * 2 ^ (10 * k) < 2 ^ 64
  fits = below_six (λ k. w - w / 2 ^ (10 * k) % 1024 * 2 ^ (10 * k) + n % 1024 * 2 ^ (10 * k) < 2 ^ 64)
      (omega arith) (omega arith) (omega arith) (omega arith) (omega arith) (omega arith)

  module _ (i : ℕ) where
    place : i % 6 < 6
    place = omega arith

    pub small_within : w / 2 ^ (10 * (i % 6)) % 1024 * 2 ^ (10 * (i % 6)) % 2 ^ 64 ≤ w
    small_within = rw (shifted_old (i % 6) place) (within (i % 6) place)

    pub small-fits : w - w / 2 ^ (10 * (i % 6)) % 1024 * 2 ^ (10 * (i % 6)) % 2 ^ 64 + n % 1024 * 2 ^ (10 * (i % 6)) % 2 ^ 64 < 2 ^ 64
    small-fits = rw (shifted_old (i % 6) place, shifted_new (i % 6) place) (fits (i % 6) place)

    pub with_small_law : w - w / 2 ^ (10 * (i % 6)) % 1024 * 2 ^ (10 * (i % 6)) % 2 ^ 64 + n % 1024 * 2 ^ (10 * (i % 6)) % 2 ^ 64 ≡ with_small w (i % 6) n
    unfolding with_small small_of unit
    with_small_law = rw (shifted_old (i % 6) place, shifted_new (i % 6) place)

pub ruleset small_laws = (small_within, small-fits, with_small_law)

-- ---- what a number is after one is put
place_same : (w n k : ℕ) → k < 6 → small_of (with_small w k n) k ≡ n % 1024
unfolding small_of with_small unit
place_same w n = below_six (λ k. small_of (with_small w k n) k ≡ n % 1024)
    (omega arith) (omega arith) (omega arith) (omega arith) (omega arith) (omega arith)

place_other : (w n k j : ℕ) → k < 6 → j < 6 → k ≢ j → small_of (with_small w k n) j ≡ small_of w j
unfolding small_of with_small unit
place_other w n k j h g = below_six (λ k. k ≢ j → small_of (with_small w k n) j ≡ small_of w j) (at0 j g) (at1 j g) (at2 j g) (at3 j g) (at4 j g) (at5 j g) k h
  where
    at0 : (j : ℕ) → j < 6 → 0 ≢ j → small_of (with_small w 0 n) j ≡ small_of w j
    at0 = below_six (λ j. 0 ≢ j → small_of (with_small w 0 n) j ≡ small_of w j) (λ d. absurd (d refl)) (λ d. omega arith) (λ d. omega arith) (λ d. omega arith) (λ d. omega arith) (λ d. omega arith)

    at1 : (j : ℕ) → j < 6 → 1 ≢ j → small_of (with_small w 1 n) j ≡ small_of w j
    at1 = below_six (λ j. 1 ≢ j → small_of (with_small w 1 n) j ≡ small_of w j) (λ d. omega arith) (λ d. absurd (d refl)) (λ d. omega arith) (λ d. omega arith) (λ d. omega arith) (λ d. omega arith)

    at2 : (j : ℕ) → j < 6 → 2 ≢ j → small_of (with_small w 2 n) j ≡ small_of w j
    at2 = below_six (λ j. 2 ≢ j → small_of (with_small w 2 n) j ≡ small_of w j) (λ d. omega arith) (λ d. omega arith) (λ d. absurd (d refl)) (λ d. omega arith) (λ d. omega arith) (λ d. omega arith)

    at3 : (j : ℕ) → j < 6 → 3 ≢ j → small_of (with_small w 3 n) j ≡ small_of w j
    at3 = below_six (λ j. 3 ≢ j → small_of (with_small w 3 n) j ≡ small_of w j) (λ d. omega arith) (λ d. omega arith) (λ d. omega arith) (λ d. absurd (d refl)) (λ d. omega arith) (λ d. omega arith)

    at4 : (j : ℕ) → j < 6 → 4 ≢ j → small_of (with_small w 4 n) j ≡ small_of w j
    at4 = below_six (λ j. 4 ≢ j → small_of (with_small w 4 n) j ≡ small_of w j) (λ d. omega arith) (λ d. omega arith) (λ d. omega arith) (λ d. omega arith) (λ d. absurd (d refl)) (λ d. omega arith)

    at5 : (j : ℕ) → j < 6 → 5 ≢ j → small_of (with_small w 5 n) j ≡ small_of w j
    at5 = below_six (λ j. 5 ≢ j → small_of (with_small w 5 n) j ≡ small_of w j) (λ d. omega arith) (λ d. omega arith) (λ d. omega arith) (λ d. omega arith) (λ d. omega arith) (λ d. absurd (d refl))

pub small_same : (p : List ℕ) (i n : ℕ) → 64 + i / 6 < length p → small (put_small p i n) i ≡ n % 1024
unfolding small put_small
small_same p i n h = rw (get_or-set_same p (64 + i / 6) (with_small (get_or p (64 + i / 6) 0) (i % 6) n) 0 h) (place_same (get_or p (64 + i / 6) 0) n (i % 6) (omega arith))

pub small_other : (p : List ℕ) (i j n : ℕ) → 64 + i / 6 < length p → i ≢ j → small (put_small p i n) j ≡ small p j
unfolding small put_small
small_other p i j n h d = go (eqb (i / 6) (j / 6)) refl
  where
    w : ℕ
    w = get_or p (64 + i / 6) 0

    go : (b : Bool) → eqb (i / 6) (j / 6) ≡ b → small_of (get_or (set p (64 + i / 6) (with_small w (i % 6) n)) (64 + j / 6) 0) (j % 6) ≡ small_of (get_or p (64 + j / 6) 0) (j % 6)
    go true q =
        let e = eqb-true (i / 6) (j / 6) q in
        rw (← e, get_or-set_same p (64 + i / 6) (with_small w (i % 6) n) 0 h) (place_other w n (i % 6) (j % 6) (omega arith) (omega arith) (λ z. d (omega arith)))
    go false q = rw (get_or-set_other p (64 + i / 6) (64 + j / 6) (with_small w (i % 6) n) 0 (λ z. eqb-false (i / 6) (j / 6) q (omega arith)))

-- the parameters' slots stay
pub small_slots : (p : List ℕ) (i j n : ℕ) → j < 64 → get_or (put_small p i n) j 0 ≡ get_or p j 0
unfolding put_small
small_slots p i j n h = get_or-set_other p (64 + i / 6) j (with_small (get_or p (64 + i / 6) 0) (i % 6) n) 0 (λ z. omega arith)

pub small_length : (p : List ℕ) (i n : ℕ) → length (put_small p i n) ≡ length p
unfolding put_small
small_length p i n = length-set p (64 + i / 6) (with_small (get_or p (64 + i / 6) 0) (i % 6) n)
