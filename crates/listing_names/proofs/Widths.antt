-- How long the names of operations are.
use Prim.Native.Nat.{ℕ, zero, suc, ◌≤◌}
use mathlib.Core.Path.{◌≡◌, refl}
use mathlib.Core.Bool.{Bool, true, false}
use mathlib.Core.List.{List, [], ◌∷◌}
use native.Mathlib.Omega.{arith}
use lib.Dec.{eqb}
use lib.ListN.{length}
use Rattle.prelude.specs.Base.{when◌then◌else◌}
use Rattle.definition.specs.Spellings.{bytes_of}
use Rattle.listing_names.specs.Words.{first, rest, word, widest}
use Rattle.listing_names.specs.Operations.{operation_names, operation_text}

first_wide : (xs : List ℕ) → length (first xs) ≤ widest xs
unfolding widest
first_wide [] = unfold first in omega arith
first_wide (x ∷ xs) = omega arith

rest_wide : (xs : List ℕ) → widest (rest xs) ≤ widest xs
unfolding rest
rest_wide [] = omega arith
rest_wide (x ∷ xs) = go (eqb x 32) refl (rest_wide xs)
  where
    go : (b : Bool) → eqb x 32 ≡ b → widest (rest xs) ≤ widest xs → widest (when eqb x 32 then xs else rest xs) ≤ widest (x ∷ xs)
    go true e h = unfold widest in rw e (omega arith)
    go false e h = rw e (let k : widest xs ≤ widest (x ∷ xs) = unfold widest in omega arith in omega arith)

word_wide : (n : ℕ) (xs : List ℕ) → length (word n xs) ≤ widest xs
unfolding word
word_wide zero xs = first_wide xs
word_wide (suc n) xs = let h = word_wide n (rest xs) in let k = rest_wide xs in omega arith

-- a word of some that are 15 wide at most
pub word_fits : (n : ℕ) (xs : List ℕ) (room : ℕ) → widest xs ≡ 15 → 32 ≤ room → length (word n xs) ≤ room
word_fits n xs room w h = let k = word_wide n xs in omega arith

names_wide : widest operation_names ≡ 15
unfolding operation_names bytes_of widest first
names_wide = refl

pub text_fits : (op : ℕ) → length (operation_text op) ≤ 32
unfolding operation_text
text_fits op = word_fits op operation_names 32 names_wide (omega arith)
