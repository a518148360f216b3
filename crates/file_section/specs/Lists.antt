-- The lists of entries: each entry is its name, which the table marks, and what follows it. In all of these s is the stream,
-- c the cursor, t the table, w the cursor with the table.
use Rattle.std.specs.Prelude.{ℕ, ◌+◌, ◌-◌, ◌*◌, ◌%◌, List, [], ◌∷◌, get_or, set, eqb, ltb}
use Rattle.prelude.specs.Base.{when◌then◌else◌}
use Rattle.access.specs.Le.{le16}
use Rattle.file_syntax.specs.Cursors.{Cursor, refuse, u16, code, small_count, name, size, size_or, bits}
use Rattle.access.specs.Loops.{run}
use Rattle.file_syntax.specs.Expressions.{counted}
use Rattle.file_syntax.specs.Statements.{body}
use Rattle.file_section.specs.Names.{Reading, reading}

-- where list k marks a name
unfoldable pub slot : ℕ → ℕ → ℕ
slot k x = when ltb k 7 then 1024 + x % 65536 else 2048 + x % 65536

-- what list k marks the name of its entry i with
unfoldable pub stamp : ℕ → ℕ → ℕ
stamp k i = when ltb k 7 then (1 + k + 8 * i) % 65536 else (k - 6 + 2 * i) % 65536

unfoldable pub mark : ℕ → ℕ → Reading → Reading
mark at v w =
    when eqb w.cursor.bad 0
    then (when eqb (get_or w.table at 0) 0 then reading w.cursor (set w.table at v) else reading (refuse 6 w.cursor) w.table)
    else w

-- the lists, in their order
pub data Which : Type 0 where
  spaces registers bit_ranges tables user_ops macros others fields subtables : Which

unfoldable pub which_of : ℕ → Which
which_of k = get_or (spaces ∷ registers ∷ bit_ranges ∷ tables ∷ user_ops ∷ macros ∷ others ∷ fields ∷ []) k subtables

-- what follows the name in an entry that is no macro
unfoldable pub after_name : Which → List ℕ → Cursor → Cursor
after_name spaces s c = size s (code s 3 c)
after_name registers s c = size s c
after_name bit_ranges s c = bits s (u16 s (le16 s 6) 5 c)
after_name tables s c = size_or s c
after_name user_ops s c = c
after_name macros s c = c
after_name others s c = c
after_name fields s c = size_or s c
after_name subtables s c = u16 s (le16 s 10) 5 c

unfoldable pub after : ℕ → List ℕ → Cursor → Cursor
after k s c = after_name (which_of k) s c

-- as many names as the cursor's number says
unfoldable pub params : List ℕ → ℕ → Cursor → Cursor
params s m c = counted (name s m) c

-- a macro's parameters and its count of statements
unfoldable pub macro_head : List ℕ → ℕ → Cursor → Cursor
macro_head s m c = u16 s 1025 4 (params s m (small_count s c))

-- where macro i stands, its first ordinal, and the next free ordinal after its n statements
unfoldable pub noted : ℕ → ℕ → ℕ → List ℕ → List ℕ
noted i at n t = set (set (set t (3072 + i) (at % 65536)) (3200 + i) (get_or t 3338 0)) 3338 ((get_or t 3338 0 + n % 65536) % 65536)

unfoldable pub macro : List ℕ → ℕ → ℕ → Reading → Reading
macro s m i w =
    reading
    (body s m (macro_head s m w.cursor).val (macro_head s m w.cursor))
    (noted i w.cursor.at (macro_head s m w.cursor).val w.table)

-- the name of entry i of list k
unfoldable pub named : ℕ → List ℕ → ℕ → Reading → Reading
named k s i w = mark (slot k (name s (le16 s 2) w.cursor).val) (stamp k i) (reading (name s (le16 s 2) w.cursor) w.table)

unfoldable pub rest_of : ℕ → List ℕ → ℕ → Reading → Reading
rest_of k s i w = when eqb k 5 then macro s (le16 s 2) i w else reading (after k s w.cursor) w.table

-- entry i of list k
unfoldable pub entry : ℕ → List ℕ → ℕ → Reading → Reading
entry k s i w = rest_of k s i (named k s i w)

-- list k, whose count stands in the header
unfoldable pub list : List ℕ → ℕ → Reading → Reading
list s k w = run (le16 s (4 + 2 * k)) 0 (entry k s) (reading w.cursor (set w.table (3328 + k) (w.cursor.at % 65536)))

-- the nine lists from spaces to subtables
unfoldable pub lists : List ℕ → Reading → Reading
lists s w = run 9 0 (list s) w
