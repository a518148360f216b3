-- Chains of the names whose spellings have the same hash. A list of 1,280 numbers keeps them: at j, 1 + the name before
-- name j on its chain, and at 1,024 + h, 1 + the last name whose hash is h; 0 for none.
use Rattle.std.specs.Prelude.{ℕ, zero, suc, ◌+◌, ◌-◌, ◌*◌, ◌/◌, ◌%◌, ◌<◌, ◌≡◌, ◌||◌, List, length, get_or, set, eqb, ltb}
use Rattle.prelude.specs.Base.{when◌then◌else◌}
use Rattle.access.specs.Le.{le16}

-- the four bytes up to the last letter of the name of l letters at p
unfoldable pub last_four : List ℕ → ℕ → ℕ → ℕ
last_four s p l =
    get_or s (p + (l - 3)) 0 + 256 * get_or s (p + (l - 2)) 0 + 65536 * get_or s (p + (l - 1)) 0 + 16777216 * get_or s (p + l) 0

-- what the hash of the name at p is made of: these four, or of a name of fewer than three letters, or whose last letter is 0,
-- its length, first letter and last letter
unfoldable pub key : List ℕ → ℕ → ℕ
key s p =
    when ltb (get_or s p 0) 3 || eqb (get_or s (p + get_or s p 0) 0) 0
    then le16 s p + 65536 * get_or s (p + get_or s p 0) 0
    else last_four s p (get_or s p 0)

-- a number below 256 from one below 2³²
unfoldable pub spread : ℕ → ℕ
spread w = w * 2654435761 / 16777216 % 256

unfoldable pub hash : List ℕ → ℕ → ℕ
hash s p = spread (key s p)

-- the hash of the name at p, whose length is a byte
pub record Hashed (s : List ℕ) (p h : ℕ) : Type 0 where
  pub is : h ≡ hash s p
  pub below : h < 256
  pub small : get_or s p 0 < 256

-- 1 + the last of the first n names whose hash is h
unfoldable pub last : List ℕ → List ℕ → ℕ → ℕ → ℕ
last s t h zero = 0
last s t h (suc i) = when eqb (hash s (get_or t i 0)) h then suc i else last s t h i

-- the chains of the first n names
pub record Linked (s t k : List ℕ) (n : ℕ) : Type 0 where
  pub size : length k ≡ 1280
  pub small : (j : ℕ) → j < n → get_or s (get_or t j 0) 0 < 256
  pub heads : (h : ℕ) → h < 256 → get_or k (1024 + h) 0 ≡ last s t h n
  pub links : (j : ℕ) → j < n → get_or k j 0 ≡ last s t (hash s (get_or t j 0)) j

-- name i put on the chain of the hash h
unfoldable pub link : ℕ → ℕ → List ℕ → List ℕ
link h i k = set (set k i (get_or k (1024 + h) 0)) (1024 + h) (i + 1)
