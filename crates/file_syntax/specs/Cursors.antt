-- The stream read in order, by a cursor: where it is, the refusal (0 none), and the number read last. A refused cursor
-- passes every read unchanged, so the first position wins. In all of these s is the stream, c the cursor, m the number of
-- names.
use Rattle.std.specs.Prelude.{ℕ, ◌+◌, ◌≡◌, refl, List, length, get_or, ltb, leb, eqb}
use Rattle.prelude.specs.Base.{when◌then◌else◌}
use Rattle.access.specs.Le.{le16}

-- where the reading is, the refusal, and the number read last
pub record Cursor : Type 0 where
  pub at : ℕ
  pub bad : ℕ
  pub val : ℕ

abbrev pub cursor : ℕ → ℕ → ℕ → Cursor
cursor p bad v = record { at = p; bad = bad; val = v }

unfoldable pub refuse : ℕ → Cursor → Cursor
refuse k c = when eqb c.bad 0 then cursor c.at k 0 else c

-- the number v, which stands in the next n bytes of len: cut is 3, and lim or more is k
unfoldable pub number : ℕ → ℕ → ℕ → ℕ → ℕ → Cursor → Cursor
number v n len lim k c =
    when eqb c.bad 0
    then (when leb (c.at + n) len
    then (when ltb v lim then cursor (c.at + n) 0 v else cursor c.at k 0)
    else cursor c.at 3 0)
    else c

unfoldable pub u8 : List ℕ → ℕ → ℕ → Cursor → Cursor
u8 s lim k c = number (get_or s c.at 0) 1 (length s) lim k c

unfoldable pub u16 : List ℕ → ℕ → ℕ → Cursor → Cursor
u16 s lim k c = number (le16 s c.at) 2 (length s) lim k c

-- what both are alike in; proved here, since the impls of `Field` name these two, and a ghost item names nothing of proofs/
pub u8_is_number : (s : List ℕ) (lim k : ℕ) (c : Cursor) → u8 s lim k c ≡ number (get_or s c.at 0) 1 (length s) lim k c
unfolding u8
u8_is_number s lim k c = refl

pub u16_is_number : (s : List ℕ) (lim k : ℕ) (c : Cursor) → u16 s lim k c ≡ number (le16 s c.at) 2 (length s) lim k c
unfolding u16
u16_is_number s lim k c = refl

-- the same, or 65,535, which stands for absent
unfoldable pub u16or : List ℕ → ℕ → ℕ → Cursor → Cursor
u16or s lim k c = number (le16 s c.at) 2 (length s) (when eqb (le16 s c.at) 65535 then 65536 else lim) k c

-- n bytes passed over
unfoldable pub skip : List ℕ → ℕ → Cursor → Cursor
skip s n c = number 0 n (length s) 1 0 c

-- one of n codes
abbrev pub code : List ℕ → ℕ → Cursor → Cursor
code s n c = u8 s n 3 c

-- a count of arguments or parameters
abbrev pub small_count : List ℕ → Cursor → Cursor
small_count s c = u8 s 9 4 c

-- one of m names
abbrev pub name : List ℕ → ℕ → Cursor → Cursor
name s m c = u16 s m 5 c

abbrev pub name_or : List ℕ → ℕ → Cursor → Cursor
name_or s m c = u16or s m 5 c

abbrev pub size : List ℕ → Cursor → Cursor
size s c = u16 s 1025 4 c

abbrev pub size_or : List ℕ → Cursor → Cursor
size_or s c = u16or s 1025 4 c

-- a first bit and a bit count
abbrev pub bits : List ℕ → Cursor → Cursor
bits s c = u16 s 8193 4 (u16 s 8193 4 c)
