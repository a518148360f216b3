-- Words with a space between them.
use Rattle.std.specs.Prelude.{ℕ, zero, suc, max, List, [], ◌∷◌, length, eqb}
use Rattle.prelude.specs.Base.{when◌then◌else◌}

-- the bytes ahead of the first space
unfoldable pub first : List ℕ → List ℕ
first [] = []
first (x ∷ xs) = when eqb x 32 then [] else (x ∷ first xs)

-- what follows the first space
unfoldable pub rest : List ℕ → List ℕ
rest [] = []
rest (x ∷ xs) = when eqb x 32 then xs else rest xs

-- word n; empty past the last
unfoldable pub word : ℕ → List ℕ → List ℕ
word zero xs = first xs
word (suc n) xs = word n (rest xs)

-- no word is longer
unfoldable pub widest : List ℕ → ℕ
widest [] = 0
widest (x ∷ xs) = max (length (first (x ∷ xs))) (widest xs)
