-- The whole stream, and the table of all that a later walk needs: 3,344 numbers.
--   n             where the length byte of name n stands in the stream
--   1024 + name   0, or 1 + kind + 8 × index of the global of that name (`Holds.globals`)
--   2048 + name   0, or 1 + 2 × i for field i, 2 + 2 × i for subtable i (`Holds.locals`)
--   3072 + i      where the parameter count of macro i stands (`Holds.macro`)
--   3200 + i      the first ordinal of macro i's body (`Holds.macro_ordinal`)
--   3328 + k      where list k begins: spaces, registers, bit ranges, tables, user ops, macros, other symbols, fields,
--                 subtables, statements (`Holds.spaces` and on)
--   3338          the first ordinal of the section's own statements (`Holds.own_ordinal`)
use Rattle.std.specs.Prelude.{ℕ, zero, suc, ◌-◌, ◌%◌, ◌≤◌, Bool, true, false, List, length, get_or, set, eqb}
use Rattle.prelude.specs.Base.{when◌then◌else◌}
use Rattle.access.specs.Le.{le16}
use Rattle.file_syntax.specs.Cursors.{Cursor, refuse}
use Rattle.file_syntax.specs.Statements.{body}
use Rattle.file_section.specs.Names.{Reading, reading, names}
use Rattle.file_section.specs.Headers.{header}
use Rattle.file_section.specs.Lists.{lists}

-- n bytes from i on are zero
unfoldable pub zeros : ℕ → ℕ → List ℕ → Bool
zeros zero i s = true
zeros (suc n) i s = when eqb (get_or s i 0) 0 then zeros n (suc i) s else false

-- the stream after the cursor is zero
unfoldable pub tail : List ℕ → Cursor → Cursor
tail s c = when zeros (length s - c.at) c.at s then c else refuse 3 c

-- the section's own statements, and the end
unfoldable pub statements : List ℕ → Reading → Reading
statements s w = reading (tail s (body s (le16 s 2) (le16 s 22) w.cursor)) (set w.table 3337 (w.cursor.at % 65536))

-- the number of a refusal of a stream
abbrev pub OfStream : ℕ → Type 0
OfStream refusal = (3 ≤ refusal) × (refusal ≤ 6)

-- a refusal, or 0, and the table
pub record Answer : Type 0 where
  pub refusal : ℕ
  pub table : List ℕ

abbrev pub answer : ℕ → List ℕ → Answer
answer r t = record { refusal = r; table = t }

abbrev pub answer_of : Reading → Answer
answer_of w = answer w.cursor.bad w.table

unfoldable pub read_stream : List ℕ → List ℕ → Answer
read_stream s t =
    when eqb (header s).bad 0
    then answer_of (statements s (lists s (names s (le16 s 2) (reading (header s) t))))
    else answer (header s).bad t
