-- The spellings, and a name as a part of the stream.
use mathlib.Core.Path.{◌≡◌, refl, ap, sym, subst, ◌∙◌}
use mathlib.Core.Logic.{◌⊎◌, inl, inr}
use mathlib.Core.Bool.{Bool, true, false, cond, ◌&&◌}
use lib.Pointwise.{pointwise}
use Rattle.std.specs.Prelude.{nat_eq, Option, Some, None, MatchOption, map}
use Rattle.std.specs.Borrow.{Bor}
use Rattle.std.specs.List.{find}
use Rattle.std.specs.Option.{option_map, unwrap_or}
use mathlib.Core.List.{List, [], ◌∷◌}
use Prim.Native.Nat.{ℕ, zero, suc, ◌+◌, ◌-◌, ◌≤◌, ◌<◌}
use native.Mathlib.Omega.{arith}
use lib.ListN.{length, get_or, take, drop, length-drop}
use lib.Seq.{drop-cons, take_all}
use lib.Dec.{eqb}
use Rattle.prelude.specs.Base.{same_numbers}
use Rattle.expr_inbuilts.specs.Outcomes.{Inbuilt, to_inbuilt}
use Rattle.expr_inbuilts.specs.declared.function.Inbuilt as function
use Rattle.expr_inbuilts.specs.Inbuilts.{among}

and_cond : (a b : Bool) → (a && b) ≡ cond a b false
and_cond true b = refl
and_cond false b = refl

-- the library's equality of slices is the definition's
same_pointwise : (a b : List ℕ) → pointwise nat_eq a b ≡ same_numbers a b
unfolding same_numbers
same_pointwise [] [] = refl
same_pointwise [] (y ∷ ys) = refl
same_pointwise (x ∷ xs) [] = refl
same_pointwise (x ∷ xs) (y ∷ ys) = and_cond (eqb x y) (pointwise nat_eq xs ys) ∙ ap (λ b. cond (eqb x y) b false) (same_pointwise xs ys)

-- what a search among rows found is the word's
module _ (w : List ℕ) where
  row_or : (b : Bool) (row : Bor (List ℕ) × function.Inbuilt) (rest : Option (Bor (List ℕ) × function.Inbuilt)) (r : Inbuilt)
      → to_inbuilt (option_map (λ x. x.1) rest) ≡ r
      → to_inbuilt (option_map (λ x. x.1) (cond b (Some row) rest)) ≡ cond b (to_inbuilt (Some row.1)) r
  row_or true row rest r e = refl
  row_or false row rest r e = e

  found_law : (rows : List (Bor (List ℕ) × function.Inbuilt)) → to_inbuilt (option_map (λ row. row.1) (find (λ row. pointwise nat_eq w row.0.now) rows)) ≡ among (map (λ row. (row.0.now, row.1)) rows) w
  unfolding among
  found_law [] = refl
  found_law (row ∷ rows) = rw (← same_pointwise w row.0.now) (row_or (pointwise nat_eq w row.0.now) row (find (λ row. pointwise nat_eq w row.0.now) rows) (among (map (λ row. (row.0.now, row.1)) rows) w) (found_law rows))

  pub row_law : (rows : List (Bor (List ℕ) × function.Inbuilt)) (r : Option (Bor (Bor (List ℕ) × function.Inbuilt))) → option_map (λ row. row.now) r ≡ find (λ row. pointwise nat_eq w row.0.now) rows → to_inbuilt (option_map (λ row. row.now.1) r) ≡ among (map (λ row. (row.0.now, row.1)) rows) w
  row_law rows (Some row) e = ap (λ o. to_inbuilt (option_map (λ row. row.1) o)) e ∙ found_law rows
  row_law rows None e = ap (λ o. to_inbuilt (option_map (λ row. row.1) o)) e ∙ found_law rows

-- what `spelled` finds where the length byte n stands ahead of the bytes more
module _ (s more : List ℕ) (at n : ℕ) where
  behind : at ≤ length s → take (length s - at) (drop at s) ≡ n ∷ more → (get_or s at 0 ≡ n) × (drop (suc at) s ≡ more)
  behind h e =
      let l : length (drop at s) ≡ length s - at = length-drop at s in
      let w : drop at s ≡ n ∷ more = sym (take_all (length s - at) (drop at s) (omega arith)) ∙ e in
      let k : length (drop at s) ≡ suc (length more) = ap length w in
      let q : get_or s at 0 ∷ drop (suc at) s ≡ n ∷ more = sym (drop-cons s at 0 (omega arith)) ∙ w in
      (ap (λ xs. get_or xs zero 0) q, ap (λ xs. drop (suc zero) xs) q)

  pub spelled_part : (r d : Bor (List ℕ)) (o : Option (Bor (List ℕ))) → at ≤ length s → take (length s - at) (drop at s) ≡ n ∷ more → d.now ≡ more → r ≡ unwrap_or o d → MatchOption o (length more ≤ n) (λ x. x.now ≡ take n more) → r.now ≡ take (get_or s at 0) (drop (at + 1) s)
  spelled_part r d o h e m q k =
      let p = behind h e in
      let j : at + 1 ≡ suc at = omega arith in
      rw (j, p.0, p.1) (ap (λ r. r.now) q ∙ ends o k)
    where
      ends : (o : Option (Bor (List ℕ))) → MatchOption o (length more ≤ n) (λ x. x.now ≡ take n more) → (unwrap_or o d).now ≡ take n more
      ends None k = m ∙ sym (take_all n more k)
      ends (Some x) k = k

-- what `get` finds of the first m bytes, with n for m
pub cut_or_whole : (more : List ℕ) (m n : ℕ) (o : Option (Bor (List ℕ))) → m ≡ n → MatchOption o ((m < 0) ⊎ (length more < m)) (λ x. (0 ≤ m) × (m ≤ length more) × (x.now ≡ take (m - 0) more) × (length x.now + 0 ≡ m)) → MatchOption o (length more ≤ n) (λ x. x.now ≡ take n more)
cut_or_whole more m n None e (inl h) = absurd (omega arith)
cut_or_whole more m n None e (inr h) = omega arith
cut_or_whole more m n (Some x) e k = let z : m - 0 ≡ n = omega arith in subst (λ j. x.now ≡ take j more) z k.2
