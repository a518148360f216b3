-- The small numbers of a scope: behind the slots of its parameters, ten bits each and six to a word. p is the scope's list.
use Rattle.std.specs.Prelude.{ℕ, ◌+◌, ◌-◌, ◌*◌, ◌/◌, ◌%◌, ◌^◌, List, get_or, set}

-- what one is worth at place k of a word
unfoldable pub unit : ℕ → ℕ
unit k = 2 ^ (10 * k)

unfoldable pub small_of : ℕ → ℕ → ℕ
small_of w k = w / unit k % 1024

-- the word with another number there
unfoldable pub with_small : ℕ → ℕ → ℕ → ℕ
with_small w k n = w - small_of w k * unit k + n % 1024 * unit k

-- number i
unfoldable pub small : List ℕ → ℕ → ℕ
small p i = small_of (get_or p (64 + i / 6) 0) (i % 6)

unfoldable pub put_small : List ℕ → ℕ → ℕ → List ℕ
put_small p i n = set p (64 + i / 6) (with_small (get_or p (64 + i / 6) 0) (i % 6) n)
