-- Bytes of two places that are alike.
use mathlib.Core.Path.{◌≡◌, refl, sym}
use mathlib.Core.Bool.{Bool, true, false}
use mathlib.Core.List.{List}
use Prim.Native.Nat.{ℕ, zero, suc, ◌+◌, ◌-◌, ◌<◌}
use native.Mathlib.Omega.{arith}
use lib.ListN.{length, get_or}
use borrow.Author.Tests.{eq-eqb}
use Rattle.std.specs.Bool.{MatchBool}
use Rattle.std.specs.List.{AllWithin, HoldsAt, range_with_len}
use Rattle.std.proofs.lemmas.List.FromFn.{length-range_with_len, get_or-range_with_len}
use Rattle.file_section.specs.Names.{agree, rest_alike}
use Rattle.file_section.proofs.ChainLaws.{agree_at}

agree_each : (m i : ℕ) (s : List ℕ) (a b : ℕ) → ((k : ℕ) → k < m → get_or s (a + (i + k)) 0 ≡ get_or s (b + (i + k)) 0) → agree m i s a b ≡ true
unfolding agree
agree_each zero i s a b f = refl
agree_each (suc m) i s a b f =
    let z : i + 0 ≡ i = omega arith in
    let e : get_or s (a + i) 0 ≡ get_or s (b + i) 0 = rw z at (f 0 (omega arith)) in
    rw (eq-eqb _ _ e) (agree_each m (suc i) s a b (λ k h. let o : i + suc k ≡ suc i + k = omega arith in rw o at (f (suc k) (omega arith))))

-- what `all` says of the bytes
pub agree_is : (s : List ℕ) (a b n : ℕ) (r : Bool) →
    MatchBool r (AllWithin (λ i. get_or s (a + i) 0 ≡ get_or s (b + i) 0) (range_with_len 2 (n + 1 - 2)) 0 (length (range_with_len 2 (n + 1 - 2))))
    ((k : ℕ) × (k < length (range_with_len 2 (n + 1 - 2))) × HoldsAt (λ i. get_or s (a + i) 0 ≡ get_or s (b + i) 0 → ⊥) (range_with_len 2 (n + 1 - 2)) k) →
    r ≡ rest_alike s a b n
unfolding rest_alike
agree_is s a b n r f =
    let z : n + 1 - 2 ≡ n - 1 = omega arith in
    go r (rw z at f)
  where
    at_place : (k : ℕ) → k < n - 1 → get_or (range_with_len 2 (n - 1)) k 0 ≡ 2 + k
    at_place k h = get_or-range_with_len 2 (n - 1) k 0 h

    go : (r : Bool) →
        MatchBool r (AllWithin (λ i. get_or s (a + i) 0 ≡ get_or s (b + i) 0) (range_with_len 2 (n - 1)) 0 (length (range_with_len 2 (n - 1))))
        ((k : ℕ) × (k < length (range_with_len 2 (n - 1))) × HoldsAt (λ i. get_or s (a + i) 0 ≡ get_or s (b + i) 0 → ⊥) (range_with_len 2 (n - 1)) k) →
        r ≡ agree (n - 1) 2 s a b
    go true f = sym (agree_each (n - 1) 2 s a b (λ k h. rw (at_place k h) at (f k 0 (omega arith) (rw (length-range_with_len 2 (n - 1)) h))))
    go false f = differ (agree (n - 1) 2 s a b) refl
      where
        h : f.0 < n - 1
        h = rw (length-range_with_len 2 (n - 1)) at f.1

        differ : (t : Bool) → agree (n - 1) 2 s a b ≡ t → false ≡ t
        differ true e = absurd ((rw (at_place f.0 h) at (f.2 0)) (agree_at (n - 1) 2 f.0 s a b e h))
        differ false e = refl
