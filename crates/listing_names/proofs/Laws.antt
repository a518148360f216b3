-- What the words stand on.
use Prim.Native.Nat.{ℕ, zero, suc, ◌+◌, ◌-◌, ◌≤◌, ◌<◌}
use mathlib.Core.Path.{◌≡◌, refl, sym, ◌∙◌, ap, subst}
use mathlib.Core.Bool.{Bool, true, false}
use mathlib.Core.List.{List, [], ◌∷◌}
use mathlib.Core.Logic.{◌⊎◌, inl, inr}
use native.Mathlib.Omega.{arith}
use lib.Dec.{eqb}
use lib.ListN.{length, get_or, take, drop, length-drop}
use lib.Seq.{drop-cons, take_all}
use denote.Ref.{Bor}
use Rattle.std.specs.Prelude.{Option, None, Some, MatchOption}
use Rattle.std.specs.Iterator.{AlwaysYields, Yields, SkipsThenYields}
use Rattle.std.specs.Option.{unwrap_or}
use Rattle.std.proofs.lemmas.Iterator.{YieldsList}
use Rattle.std.proofs.lemmas.List.{get_or_past}
use Rattle.std.specs.List.{slice_split, onto_first}
use Rattle.std.proofs.lemmas.List.Splits.{length-slice_split}
use Rattle.listing_names.specs.Words.{first, rest, word}

word_nil : (n : ℕ) → word n [] ≡ []
unfolding word first rest
word_nil zero = refl
word_nil (suc n) = word_nil n

first_onto : (x : ℕ) (parts : List (List ℕ)) → 0 < length parts → get_or (onto_first x parts) 0 [] ≡ x ∷ get_or parts 0 []
first_onto x [] h = absurd (omega arith)
first_onto x (part ∷ parts) h = refl

later_onto : (x : ℕ) (parts : List (List ℕ)) (n : ℕ) → 0 < length parts → get_or (onto_first x parts) (suc n) [] ≡ get_or parts (suc n) []
later_onto x [] n h = absurd (omega arith)
later_onto x (part ∷ parts) n h = refl

-- word n is part n of what is cut at each space
pub word_part : (xs : List ℕ) (n : ℕ) → word n xs ≡ get_or (slice_split (λ b. eqb b 32) xs) n []
unfolding word first rest
word_part [] zero = refl
word_part [] (suc n) = word_nil n
word_part (x ∷ xs) n = at (eqb x 32) refl n (λ k. word_part xs k)
  where
    some : 0 < length (slice_split (λ b. eqb b 32) xs)
    some = let e = length-slice_split (λ b. eqb b 32) xs in omega arith

    at : (b : Bool) → eqb x 32 ≡ b → (n : ℕ) → ((k : ℕ) → word k xs ≡ get_or (slice_split (λ b. eqb b 32) xs) k []) → word n (x ∷ xs) ≡ get_or (slice_split (λ b. eqb b 32) (x ∷ xs)) n []
    at true e zero h = rw e
    at true e (suc n) h = rw e (h n)
    at false e zero h = rw (e, first_onto x (slice_split (λ b. eqb b 32) xs) some) (ap (λ w. x ∷ w) (h zero))
    at false e (suc n) h = rw (e, later_onto x (slice_split (λ b. eqb b 32) xs) n some) (h (suc n))

-- what `nth` gives where the iterator yields a list
module _ {S A B : Type 0} (steps : S → Option A → S → Type 0) (v : A → B) (d : B) where
  nth_of : (ys : List B) (s t u : S) (n : ℕ) (xs : List A) (o : Option A) → AlwaysYields steps v s ys → Yields steps s xs t → steps t o u → MatchOption o (length xs ≤ n) (λ _. length xs ≡ n) → MatchOption o (length ys ≤ n) (λ x. v x ≡ get_or ys n d)
  nth_of [] s t u n [] None e y p l = l
  nth_of [] s t u n [] (Some x) e y p l = absurd (e x u (subst (λ k. steps k (Some x) u) (sym y) p))
  nth_of [] s t u n (x ∷ xs) o e y p l = absurd (e x y.0 y.1)
  nth_of (z ∷ ys) s t u n [] None e y p l = absurd (e.0 u (subst (λ k. steps k None u) (sym y) p))
  nth_of (z ∷ ys) s t u n [] (Some x) e y p l = subst (λ k. v x ≡ get_or (z ∷ ys) k d) l (e.1 x u (subst (λ k. steps k (Some x) u) (sym y) p)).0
  nth_of (z ∷ ys) s t u zero (x ∷ xs) None e y p l = absurd (omega arith)
  nth_of (z ∷ ys) s t u zero (x ∷ xs) (Some w) e y p l = absurd (omega arith)
  nth_of (z ∷ ys) s t u (suc n) (x ∷ xs) None e y p l = let h = nth_of ys y.0 t u n xs None (e.1 x y.0 y.1).1 y.2 p (omega arith) in omega arith
  nth_of (z ∷ ys) s t u (suc n) (x ∷ xs) (Some w) e y p l = nth_of ys y.0 t u n xs (Some w) (e.1 x y.0 y.1).1 y.2 p (omega arith)

  pub from_nth : (ys : List B) (s u : S) (n : ℕ) (o : Option A) (e : A) → YieldsList steps v s ys → SkipsThenYields steps s n o u → v e ≡ d → v (unwrap_or o e) ≡ get_or ys n d
  from_nth ys s u n o e l r q = ends o (nth_of ys s r.1.0 u n r.0 o l.runs r.1.1 r.1.2 r.2)
    where
      ends : (o : Option A) → MatchOption o (length ys ≤ n) (λ x. v x ≡ get_or ys n d) → v (unwrap_or o e) ≡ get_or ys n d
      ends None h = q ∙ sym (get_or_past ys n d h)
      ends (Some x) h = h

-- what `spelled` finds where the length byte n stands ahead of the bytes more
module _ (s more : List ℕ) (at n : ℕ) where
  behind : at ≤ length s → take (length s - at) (drop at s) ≡ n ∷ more → (get_or s at 0 ≡ n) × (drop (suc at) s ≡ more)
  behind h e =
      let l : length (drop at s) ≡ length s - at = length-drop at s in
      let w : drop at s ≡ n ∷ more = sym (take_all (length s - at) (drop at s) (omega arith)) ∙ e in
      let k : length (drop at s) ≡ suc (length more) = ap length w in
      let q : get_or s at 0 ∷ drop (suc at) s ≡ n ∷ more = sym (drop-cons s at 0 (omega arith)) ∙ w in
      (ap (λ xs. get_or xs zero 0) q, ap (λ xs. drop (suc zero) xs) q)

  pub spelled_part : (r d : Bor (List ℕ)) (o : Option (Bor (List ℕ))) → at ≤ length s → take (length s - at) (drop at s) ≡ n ∷ more → d.now ≡ more → r ≡ unwrap_or o d → MatchOption o (length more ≤ n) (λ x. x.now ≡ take n more) → r.now ≡ take (get_or s at 0) (drop (suc at) s)
  spelled_part r d o h e m q k =
      let p = behind h e in
      rw (p.0, p.1) (ap (λ r. r.now) q ∙ ends o k)
    where
      ends : (o : Option (Bor (List ℕ))) → MatchOption o (length more ≤ n) (λ x. x.now ≡ take n more) → (unwrap_or o d).now ≡ take n more
      ends None k = m ∙ sym (take_all n more k)
      ends (Some x) k = k

-- what `get` finds of the first m bytes, with n for m
pub cut_or_whole : (more : List ℕ) (m n : ℕ) (o : Option (Bor (List ℕ))) → m ≡ n → MatchOption o ((m < 0) ⊎ (length more < m)) (λ x. (0 ≤ m) × (m ≤ length more) × (x.now ≡ take (m - 0) more) × (length x.now + 0 ≡ m)) → MatchOption o (length more ≤ n) (λ x. x.now ≡ take n more)
cut_or_whole more m n None e (inl h) = absurd (omega arith)
cut_or_whole more m n None e (inr h) = omega arith
cut_or_whole more m n (Some x) e k = let z : m - 0 ≡ n = omega arith in subst (λ j. x.now ≡ take j more) z k.2
