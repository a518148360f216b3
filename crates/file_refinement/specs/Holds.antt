-- What an accepted stream and its table hold: the definition's section, at the places that the table gives.
use Rattle.std.specs.Prelude.{ℕ, suc, ◌+◌, ◌*◌, ◌≤◌, ◌<◌, ◌≡◌, List, [], ◌∷◌, map, length, get_or, take, drop, eqb}
use Rattle.std.proofs.Math.Option.{Option, none, some}
use Rattle.std.proofs.Math.ListN.{get_elem?}
use Rattle.prelude.specs.Base.{when◌then◌else◌, position}
use Rattle.definition.specs.Ast.{SpaceKind, Space, Register, BitRange, Table, Macro, Field, Subtable, Statement, Section}
use Rattle.definition.specs.SectionFile.{parsed, list_of}
use Rattle.definition.specs.SectionFile as d
use Rattle.definition.specs.Scope.{Symbol, find, globals}
use Rattle.access.specs.Le.{le16}

-- a u16 at p, 65,535 where absent
abbrev pub absent_at : List ℕ → ℕ → Option ℕ
absent_at s p = when eqb (le16 s p) 65535 then none else some (le16 s p)

-- the counts are within their limits, and the names name something
pub record Limits (s : List ℕ) : Type 0 where
  pub rule_set : le16 s 0 ≤ 0
  pub names : le16 s 2 ≤ 1024
  pub spaces : le16 s 4 ≤ 8
  pub registers : le16 s 6 ≤ 1024
  pub bit_ranges : le16 s 8 ≤ 1024
  pub tables : le16 s 10 ≤ 256
  pub user_ops : le16 s 12 ≤ 256
  pub macros : le16 s 14 ≤ 128
  pub others : le16 s 16 ≤ 1024
  pub fields : le16 s 18 ≤ 64
  pub subtables : le16 s 20 ≤ 32
  pub statements : le16 s 22 ≤ 1024
  pub default_space : (x : ℕ) → absent_at s 24 ≡ some x → x < le16 s 4
  pub inst_start : le16 s 26 < le16 s 2
  pub inst_next : le16 s 28 < le16 s 2
  pub const : le16 s 30 < le16 s 2
  pub delay_slot : le16 s 32 < le16 s 2

-- a name at p: its length byte and as many bytes
pub record Named (s : List ℕ) (p : ℕ) : Type 0 where
  pub some : 1 ≤ get_or s p 0
  pub few : get_or s p 0 ≤ 24
  pub inside : suc p + get_or s p 0 ≤ length s

abbrev pub spelled_at : List ℕ → ℕ → List ℕ
spelled_at s p = take (get_or s p 0) (drop (suc p) s)

-- The entries of the lists: the name is read before, and what follows it stands at q.

unfoldable pub space_kind : ℕ → SpaceKind
space_kind b = get_or (SpaceKind.RamSpace ∷ SpaceKind.RegisterSpace ∷ []) b SpaceKind.OtherSpace

unfoldable pub space_at : List ℕ → ℕ → ℕ → Space
space_at s own q = record { name = own; kind = space_kind (get_or s q 0); address_size = le16 s (suc q) }

unfoldable pub register_at : List ℕ → ℕ → ℕ → Register
register_at s own q = record { name = own; size = le16 s q }

unfoldable pub bit_range_at : List ℕ → ℕ → ℕ → BitRange
bit_range_at s own q = record { name = own; register = le16 s q; first_bit = le16 s (q + 2); bit_count = le16 s (q + 4) }

unfoldable pub table_at : List ℕ → ℕ → ℕ → Table
table_at s own q = record { name = own; export_size = absent_at s q }

unfoldable pub name_only : ℕ → ℕ → ℕ
name_only own q = own

unfoldable pub field_at : List ℕ → ℕ → ℕ → Field
field_at s own q = record { name = own; size = absent_at s q }

unfoldable pub subtable_at : List ℕ → ℕ → ℕ → Subtable
subtable_at s own q = record { name = own; table = le16 s q }

-- list k, of entries that are so many bytes wide after their names, begins where the table says
pub record Listed {A : Type 0} (s t : List ℕ) (k wide : ℕ) (f : ℕ → ℕ → A) (xs : List A) : Type 0 where
  pub count : length xs ≡ le16 s (4 + 2 * k)
  pub element : (j : ℕ) → j < length xs → get_elem? xs j ≡ some (f (le16 s (get_or t (3328 + k) 0 + (2 + wide) * j)) (get_or t (3328 + k) 0 + (2 + wide) * j + 2))

-- the word that marks a global's name: the number of its kind, and its place
unfoldable pub symbol_word : Option Symbol → ℕ
symbol_word none = 0
symbol_word (some (Symbol.Space i x)) = 1 + 0 + 8 * i
symbol_word (some (Symbol.Register i x)) = 1 + 1 + 8 * i
symbol_word (some (Symbol.BitRange i x)) = 1 + 2 + 8 * i
symbol_word (some (Symbol.Table i x)) = 1 + 3 + 8 * i
symbol_word (some (Symbol.UserOp i)) = 1 + 4 + 8 * i
symbol_word (some (Symbol.Macro i x)) = 1 + 5 + 8 * i
symbol_word (some (Symbol.Other i)) = 1 + 6 + 8 * i

-- the word that marks a field's or a subtable's name
unfoldable pub local_word : Option ℕ → Option ℕ → ℕ
local_word (some i) b = 1 + 2 * i
local_word none (some i) = 2 + 2 * i
local_word none none = 0

-- the statements of the first macros
unfoldable pub bodies : List Macro → ℕ
bodies [] = 0
bodies (x ∷ xs) = length x.body + bodies xs

-- the macro's parameter count stands at p: reading there gives its parameters and body
pub record MacroAt (s : List ℕ) (p : ℕ) (x : Macro) : Type 0 where
  pub after : ℕ
  pub inside : p ≤ length s
  pub reads : d.macro (le16 s 2) x.name (drop p s) ≡ parsed x (drop after s)

-- the section's own statements stand at p
pub record StatementsAt (s : List ℕ) (p : ℕ) (xs : List Statement) : Type 0 where
  pub after : ℕ
  pub inside : p ≤ length s
  pub reads : list_of (d.statement (le16 s 2)) (le16 s 22) (drop p s) ≡ parsed xs (drop after s)

-- The stream s and the table t hold the section. The counts stand in the header, and so do the default space and the four
-- names; the lists begin where the table says; the table finds a global, a field or a subtable by its name.
pub record Holds (s t : List ℕ) (sec : Section) : Type 0 where
  pub size : length t ≡ 3344
  pub limits : Limits s
  pub rule_set : sec.header.rule_set ≡ le16 s 0
  pub default_space : sec.header.default_space ≡ absent_at s 24
  pub inst_start : sec.header.inst_start ≡ le16 s 26
  pub inst_next : sec.header.inst_next ≡ le16 s 28
  pub const : sec.header.const ≡ le16 s 30
  pub delay_slot : sec.header.delay_slot ≡ le16 s 32
  pub name_count : length sec.names ≡ le16 s 2
  pub spelling : (n : ℕ) → n < length sec.names → get_elem? sec.names n ≡ some (spelled_at s (get_or t n 0))
  pub named : (n : ℕ) → n < length sec.names → Named s (get_or t n 0)
  pub spaces : Listed s t 0 3 (space_at s) sec.spaces
  pub registers : Listed s t 1 2 (register_at s) sec.registers
  pub bit_ranges : Listed s t 2 6 (bit_range_at s) sec.bit_ranges
  pub tables : Listed s t 3 2 (table_at s) sec.tables
  pub user_ops : Listed s t 4 0 name_only sec.user_ops
  pub macro_count : length sec.macros ≡ le16 s 14
  pub macro : (i : ℕ) (x : Macro) → get_elem? sec.macros i ≡ some x → MacroAt s (get_or t (3072 + i) 0) x
  pub macro_ordinal : (i : ℕ) → i < length sec.macros → get_or t (3200 + i) 0 ≡ bodies (take i sec.macros)
  pub others : Listed s t 6 0 name_only sec.others
  pub fields : Listed s t 7 2 (field_at s) sec.fields
  pub subtables : Listed s t 8 2 (subtable_at s) sec.subtables
  pub statement_count : length sec.statements ≡ le16 s 22
  pub statements : StatementsAt s (get_or t 3337 0) sec.statements
  pub own_ordinal : get_or t 3338 0 ≡ bodies sec.macros
  pub globals : (x : ℕ) → x < 1024 → get_or t (1024 + x) 0 ≡ symbol_word (find x (globals sec))
  pub locals : (x : ℕ) → x < 1024 → get_or t (2048 + x) 0 ≡ local_word (position (eqb x) 0 (map (λ (y : Field). y.name) sec.fields)) (position (eqb x) 0 (map (λ (y : Subtable). y.name) sec.subtables))
