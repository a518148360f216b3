-- The list of names, and the table that is filled on the way. In all of these s is the stream, c the cursor, t the table, w
-- the cursor with the table.
use Rattle.std.specs.Prelude.{ℕ, zero, suc, ◌+◌, ◌-◌, ◌%◌, Bool, true, false, List, get_or, set, eqb}
use Rattle.prelude.specs.Base.{when◌then◌else◌}
use Rattle.access.specs.Le.{le16}
use Rattle.file_syntax.specs.Cursors.{Cursor, refuse, u8, skip}
use Rattle.access.specs.Loops.{run}

-- a cursor, and the table
pub record Reading : Type 0 where
  pub cursor : Cursor
  pub table : List ℕ

abbrev pub reading : Cursor → List ℕ → Reading
reading c t = record { cursor = c; table = t }

-- n bytes from i on of two places
unfoldable pub agree : ℕ → ℕ → List ℕ → ℕ → ℕ → Bool
agree zero i s a b = true
agree (suc n) i s a b = when eqb (get_or s (a + i) 0) (get_or s (b + i) 0) then agree n (suc i) s a b else false

-- bytes 2 up to n of two places
unfoldable pub rest_alike : List ℕ → ℕ → ℕ → ℕ → Bool
rest_alike s a b n = agree (n - 1) 2 s a b

-- the names at two places, each a length byte and its bytes, are spelled alike
unfoldable pub alike : List ℕ → ℕ → ℕ → Bool
alike s a b = when eqb (le16 s a) (le16 s b) then rest_alike s a b (get_or s a 0) else false

-- one of the first n names is spelled as the one at p
unfoldable pub known : List ℕ → List ℕ → ℕ → ℕ → Bool
known s t p zero = false
known s t p (suc i) = when alike s p (get_or t i 0) then true else known s t p i

-- the letters of name i, which begins at p and whose length is read
unfoldable pub letters : List ℕ → List ℕ → ℕ → ℕ → Cursor → Cursor
letters s t i p l =
    when eqb l.val 0 then refuse 4 l
    else when eqb (skip s l.val l).bad 0
    then (when known s t p i then refuse 6 (skip s l.val l) else skip s l.val l)
    else skip s l.val l

-- name i: its length, 1 to 24, and its bytes
unfoldable pub spelling : List ℕ → List ℕ → ℕ → Cursor → Cursor
spelling s t i c = when eqb (u8 s 25 4 c).bad 0 then letters s t i c.at (u8 s 25 4 c) else u8 s 25 4 c

-- name i, and where it begins
unfoldable pub name_at : List ℕ → ℕ → Reading → Reading
name_at s i w = reading (spelling s w.table i w.cursor) (set w.table i (w.cursor.at % 65536))

unfoldable pub names : List ℕ → ℕ → Reading → Reading
names s n w = run n 0 (name_at s) w
