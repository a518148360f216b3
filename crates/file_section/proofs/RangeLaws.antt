-- A stream is refused by one of the numbers 3 to 6: each word leaves a cursor that is not refused, or is so by one of these,
-- such a cursor.
use mathlib.Core.Path.{◌≡◌, refl}
use mathlib.Core.Bool.{Bool, true, false}
use mathlib.Core.List.{List}
use Prim.Native.Nat.{ℕ, ◌-◌}
use native.Mathlib.Omega.{arith}
use lib.ListN.{length, get_or, set}
use lib.Dec.{eqb}
use Rattle.prelude.specs.Base.{when◌then◌else◌}
use Rattle.std.specs.Int.NonZero.{non_zero_u64_get}
use Rattle.std.specs.declared.num.NonZeroU64.{NonZeroU64}
use Rattle.access.specs.Le.{le16}
use Rattle.file_syntax.specs.Cursors.{Cursor, cursor, refuse, u8, u16, u16or, skip}
use Rattle.file_syntax.specs.Expressions.{counted}
use Rattle.file_syntax.specs.Statements.{body}
use Rattle.file_syntax.proofs.RefusedLaws.{refused}
use Rattle.file_syntax.proofs.RangeLaws.{refused_by, refuse_refused_by, run_keeps, counted_refused_by, u8_refused_by, u16or_refused_by, skip_refused_by, code_refused_by, count_refused_by, name_refused_by, body_refused_by}
use Rattle.file_section.specs.Names.{Reading, reading, known, letters, spelling, name_at, names}
use Rattle.file_section.specs.Headers.{global_counts, counts, roles, header}
use Rattle.file_section.specs.Lists.{mark, Which, which_of, after_name, after, params, macro_head, macro, named, rest_of, entry, list, lists}
use Rattle.file_section.specs.Stream.{OfStream, zeros, tail, statements}

-- not refused, or as a stream is
abbrev pub Fine : Cursor → Type 0
Fine c = (c.bad ≡ 0 → ⊥) → OfStream c.bad

-- by which number, whatever was read last
abbrev ByStream : ℕ → ℕ → Type 0
ByStream refusal v = OfStream refusal

-- the numbers themselves
malformed : OfStream 3
malformed = (omega arith, omega arith)

outside_limit : OfStream 4
outside_limit = (omega arith, omega arith)

names_nothing : OfStream 5
names_nothing = (omega arith, omega arith)

spelled_twice : OfStream 6
spelled_twice = (omega arith, omega arith)

-- what `file_syntax` shows of its words

u8_fine : (s : List ℕ) (lim k : ℕ) (c : Cursor) → OfStream k → Fine c → Fine (u8 s lim k c)
u8_fine = u8_refused_by ByStream malformed

u16or_fine : (s : List ℕ) (lim k : ℕ) (c : Cursor) → OfStream k → Fine c → Fine (u16or s lim k c)
u16or_fine = u16or_refused_by ByStream malformed

refuse_fine : (k : ℕ) (c : Cursor) → OfStream k → Fine c → Fine (refuse k c)
refuse_fine = refuse_refused_by ByStream

skip_fine : (s : List ℕ) (n : ℕ) (c : Cursor) → Fine c → Fine (skip s n c)
skip_fine = skip_refused_by ByStream malformed

code_fine : (s : List ℕ) (n : ℕ) (c : Cursor) → Fine c → Fine (u8 s n 3 c)
code_fine = code_refused_by ByStream malformed

count_fine : (s : List ℕ) (lim : ℕ) (c : Cursor) → Fine c → Fine (u16 s lim 4 c)
count_fine s lim c = count_refused_by ByStream malformed s lim c outside_limit

name_fine : (s : List ℕ) (m : ℕ) (c : Cursor) → Fine c → Fine (u16 s m 5 c)
name_fine s m c = name_refused_by ByStream malformed s m c names_nothing

counted_fine : (g : Cursor → Cursor) (c : Cursor) → ((y : Cursor) → Fine y → Fine (g y)) → Fine c → Fine (counted g c)
counted_fine = counted_refused_by ByStream

body_fine : (s : List ℕ) (m n : ℕ) (c : Cursor) → Fine c → Fine (body s m n c)
body_fine = body_refused_by ByStream malformed outside_limit names_nothing

-- The header.

header_fine : (s : List ℕ) → Fine (header s)
unfolding header roles counts global_counts
header_fine s =
    let start : Fine (cursor 0 0 0) = λ z. absurd (z refl) in
    let a = count_fine s 1025 _ (count_fine s 1025 _ (count_fine s 9 _ (count_fine s 1025 _ (count_fine s 1 _ start)))) in
    let b = count_fine s 1025 _ (count_fine s 129 _ (count_fine s 257 _ (count_fine s 257 _ a))) in
    let d = count_fine s 1025 _ (count_fine s 33 _ (count_fine s 65 _ b)) in
    let e = u16or_fine s (le16 s 4) 5 _ names_nothing d in
    name_fine s (le16 s 2) _ (name_fine s (le16 s 2) _ (name_fine s (le16 s 2) _ (name_fine s (le16 s 2) _ e)))

-- The names and the lists, with the table.

abbrev FineReading : Reading → Type 0
FineReading w = Fine w.cursor

letters_fine : (s t : List ℕ) (i p : ℕ) (l : Cursor) → Fine l → Fine (letters s t i p l)
unfolding letters
letters_fine s t i p l f = go (eqb l.val 0) (eqb (skip s l.val l).bad 0) (known s t p i)
  where
    go : (a b d : Bool) → Fine (when a then refuse 4 l else when b then (when d then refuse 6 (skip s l.val l) else skip s l.val l) else skip s l.val l)
    go true b d = refuse_fine 4 l outside_limit f
    go false true true = refuse_fine 6 _ spelled_twice (skip_fine s l.val l f)
    go false true false = skip_fine s l.val l f
    go false false d = skip_fine s l.val l f

spelling_fine : (s t : List ℕ) (i : ℕ) (c : Cursor) → Fine c → Fine (spelling s t i c)
unfolding spelling
spelling_fine s t i c f = go (eqb (u8 s 25 4 c).bad 0)
  where
    g : Fine (u8 s 25 4 c)
    g = u8_fine s 25 4 c outside_limit f

    go : (a : Bool) → Fine (when a then letters s t i c.at (u8 s 25 4 c) else u8 s 25 4 c)
    go true = letters_fine s t i c.at _ g
    go false = g

names_fine : (s : List ℕ) (n : ℕ) (w : Reading) → Fine w.cursor → Fine (names s n w).cursor
unfolding names name_at
names_fine s n w f = run_keeps FineReading n 0 (name_at s) w (λ i y g. spelling_fine s y.table i y.cursor g) f

mark_fine : (at v : ℕ) (w : Reading) → Fine w.cursor → Fine (mark at v w).cursor
unfolding mark
mark_fine at v w f = go (eqb w.cursor.bad 0) (eqb (get_or w.table at 0) 0)
  where
    go : (a b : Bool) → Fine (when a then (when b then reading w.cursor (set w.table at v) else reading (refuse 6 w.cursor) w.table) else w).cursor
    go true true = f
    go true false = refuse_fine 6 w.cursor spelled_twice f
    go false b = f

after_name_fine : (w : Which) (s : List ℕ) (c : Cursor) → Fine c → Fine (after_name w s c)
unfolding after_name
after_name_fine Which.spaces s c f = count_fine s 1025 _ (code_fine s 3 c f)
after_name_fine Which.registers s c f = count_fine s 1025 c f
after_name_fine Which.bit_ranges s c f = count_fine s 8193 _ (count_fine s 8193 _ (name_fine s (le16 s 6) c f))
after_name_fine Which.tables s c f = u16or_fine s 1025 4 c outside_limit f
after_name_fine Which.user_ops s c f = f
after_name_fine Which.macros s c f = f
after_name_fine Which.others s c f = f
after_name_fine Which.fields s c f = u16or_fine s 1025 4 c outside_limit f
after_name_fine Which.subtables s c f = name_fine s (le16 s 10) c f

macro_fine : (s : List ℕ) (m i : ℕ) (w : Reading) → Fine w.cursor → Fine (macro s m i w).cursor
unfolding macro macro_head params
macro_fine s m i w f =
    body_fine s m _ _ (count_fine s 1025 _ (counted_fine (u16 s m 5) _ (name_fine s m) (u8_fine s 9 4 w.cursor outside_limit f)))

entry_fine : (k : ℕ) (s : List ℕ) (i : ℕ) (w : Reading) → Fine w.cursor → Fine (entry k s i w).cursor
unfolding entry rest_of named after
entry_fine k s i w f = go (eqb k 5) (mark_fine _ _ _ (name_fine s (le16 s 2) w.cursor f))
  where
    go : (a : Bool) → Fine (named k s i w).cursor → Fine (when a then macro s (le16 s 2) i (named k s i w) else reading (after k s (named k s i w).cursor) (named k s i w).table).cursor
    go true g = macro_fine s (le16 s 2) i _ g
    go false g = after_name_fine (which_of k) s _ g

lists_fine : (s : List ℕ) (w : Reading) → Fine w.cursor → Fine (lists s w).cursor
unfolding lists list
lists_fine s w f = run_keeps FineReading 9 0 (list s) w (λ k y g. run_keeps FineReading _ 0 (entry k s) _ (entry_fine k s) g) f

-- The whole stream.

tail_fine : (s : List ℕ) (c : Cursor) → Fine c → Fine (tail s c)
unfolding tail
tail_fine s c f = go (zeros (length s - c.at) c.at s)
  where
    go : (a : Bool) → Fine (when a then c else refuse 3 c)
    go true = f
    go false = refuse_fine 3 c malformed f

refused_fine : (p : ℕ) (r : NonZeroU64) (x : ℕ) → Fine (refused p r x) → OfStream (non_zero_u64_get r)
refused_fine = refused_by ByStream

fine_as : (c d : Cursor) → c ≡ d → Fine d → Fine c
fine_as c d e f = rw e f

pub header_refused : (s : List ℕ) (p : ℕ) (r : NonZeroU64) (x : ℕ) → refused p r x ≡ header s → OfStream (non_zero_u64_get r)
header_refused s p r x e = refused_fine p r x (fine_as (refused p r x) (header s) e (header_fine s))

pub stream_refused : (s : List ℕ) (n p : ℕ) (r : NonZeroU64) (x : ℕ) (a b c : Cursor) (t t1 t2 t3 : List ℕ) → a ≡ header s → reading b t1 ≡ names s n (reading a t) → reading c t2 ≡ lists s (reading b t1) → reading (refused p r x) t3 ≡ statements s (reading c t2) → OfStream (non_zero_u64_get r)
unfolding statements
stream_refused s n p r x a b c t t1 t2 t3 e f g h =
    let named : Fine b = ap_cursor f (names_fine s n (reading a t) (rw e (header_fine s))) in
    let listed : Fine c = ap_cursor g (lists_fine s (reading b t1) named) in
    refused_fine p r x (ap_cursor h (tail_fine s _ (body_fine s (le16 s 2) (le16 s 22) c listed)))
  where
    ap_cursor : {d : Cursor} {v : List ℕ} {w : Reading} → reading d v ≡ w → Fine w.cursor → Fine d
    ap_cursor q k = rw (← q) at k
