-- The header, as a cursor passes it. In all of these s is the stream, c the cursor.
use Rattle.std.specs.Prelude.{ℕ, List}
use Rattle.access.specs.Le.{le16}
use Rattle.file_syntax.specs.Cursors.{Cursor, cursor, u16, u16or, name}

-- rule set, names and the counts of the globals
unfoldable pub global_counts : List ℕ → Cursor → Cursor
global_counts s c =
    u16 s 1025 4 (u16 s 129 4 (u16 s 257 4 (u16 s 257 4 (u16 s 1025 4 (u16 s 1025 4 (u16 s 9 4 (u16 s 1025 4 (u16 s 1 4 c))))))))

-- the counts of fields, subtables and statements
unfoldable pub counts : List ℕ → Cursor → Cursor
counts s c = u16 s 1025 4 (u16 s 33 4 (u16 s 65 4 c))

-- the default space, and the names of inst_start, inst_next, const and the delay slot
unfoldable pub roles : List ℕ → Cursor → Cursor
roles s c = name s (le16 s 2) (name s (le16 s 2) (name s (le16 s 2) (name s (le16 s 2) (u16or s (le16 s 4) 5 c))))

unfoldable pub header : List ℕ → Cursor
header s = roles s (counts s (global_counts s (cursor 0 0 0)))
