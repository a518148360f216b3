-- THE SCOPE: what a name means, locals and labels; the section's own scope and a macro's.
use Rattle.std.specs.Prelude.{ℕ, suc, ◌+◌, true, false, not, List, [], ◌∷◌, ◌++◌, map, eqb, leb}
use Rattle.std.proofs.Math.Option.{Option, none, some}
use Rattle.prelude.specs.Base.{when◌then◌else◌, ◌or◌, and_then, is_some, first}
use Rattle.definition.specs.Refusals.{Refusal, undefined, wrong_kind, redeclared, too_many_labels, label_twice}
use Rattle.definition.specs.Value.{Kind, Value, local}
use Rattle.definition.specs.Ast.{Space as SpaceEntry, Register as RegisterEntry, BitRange as BitRangeEntry, Table as TableEntry, Macro as MacroEntry, Field as FieldEntry, Subtable as SubtableEntry, Section}
use Rattle.definition.specs.Walk.{ExprValue, Label, Scope, Walk, ◌>>=◌, ◌>>◌, pure, refuse, require, section, state, change, with_scope, with_label, add_tmp}

unfoldable pub find : {A : Type 0} → ℕ → List (ℕ × A) → Option A
find n entries = first (λ e. when eqb n e.0 then some e.1 else none) entries

-- the entry of that name replaced, or a new one at the end
unfoldable pub put_entry : {A : Type 0} → ℕ → A → List (ℕ × A) → List (ℕ × A)
put_entry n a [] = (n, a) ∷ []
put_entry n a (e ∷ entries) = when eqb n e.0 then (n, a) ∷ entries else e ∷ put_entry n a entries

-- Globals.

-- a symbol: its place in its kind's list, and its entry there
pub data Symbol : Type 0 where
  Space : (id : ℕ) (entry : SpaceEntry) → Symbol
  Register : (id : ℕ) (entry : RegisterEntry) → Symbol
  BitRange : (id : ℕ) (entry : BitRangeEntry) → Symbol
  Table : (id : ℕ) (entry : TableEntry) → Symbol
  UserOp : (id : ℕ) → Symbol
  Macro : (id : ℕ) (entry : MacroEntry) → Symbol
  Other : (id : ℕ) → Symbol

-- the symbols of a list's entries by their names, counted from i
unfoldable pub symbols : {A : Type 0} → (A → ℕ) → (ℕ → A → Symbol) → ℕ → List A → List (ℕ × Symbol)
symbols name symbol i [] = []
symbols name symbol i (x ∷ xs) = (name x, symbol i x) ∷ symbols name symbol (suc i) xs

unfoldable pub globals : Section → List (ℕ × Symbol)
globals sec =
    symbols (λ (x : SpaceEntry). x.name) Symbol.Space 0 sec.spaces
    ++ symbols (λ (x : RegisterEntry). x.name) Symbol.Register 0 sec.registers
    ++ symbols (λ (x : BitRangeEntry). x.name) Symbol.BitRange 0 sec.bit_ranges
    ++ symbols (λ (x : TableEntry). x.name) Symbol.Table 0 sec.tables
    ++ symbols (λ (n : ℕ). n) (λ i n. Symbol.UserOp i) 0 sec.user_ops
    ++ symbols (λ (x : MacroEntry). x.name) Symbol.Macro 0 sec.macros
    ++ symbols (λ (n : ℕ). n) (λ i n. Symbol.Other i) 0 sec.others

unfoldable pub lookup : ℕ → Walk (Option Symbol)
lookup n = do
  sec ← section
  pure (find n (globals sec))

-- the space that was found
unfoldable pub as_space : Option Symbol → Walk SpaceEntry
as_space none = refuse undefined
as_space (some (Symbol.Space i x)) = pure x
as_space (some (Symbol.Register i x)) = refuse wrong_kind
as_space (some (Symbol.BitRange i x)) = refuse wrong_kind
as_space (some (Symbol.Table i x)) = refuse wrong_kind
as_space (some (Symbol.UserOp i)) = refuse wrong_kind
as_space (some (Symbol.Macro i x)) = refuse wrong_kind
as_space (some (Symbol.Other i)) = refuse wrong_kind

-- the place of the table that was found
unfoldable pub as_table : Option Symbol → Walk ℕ
as_table none = refuse undefined
as_table (some (Symbol.Table i x)) = pure i
as_table (some (Symbol.Space i x)) = refuse wrong_kind
as_table (some (Symbol.Register i x)) = refuse wrong_kind
as_table (some (Symbol.BitRange i x)) = refuse wrong_kind
as_table (some (Symbol.UserOp i)) = refuse wrong_kind
as_table (some (Symbol.Macro i x)) = refuse wrong_kind
as_table (some (Symbol.Other i)) = refuse wrong_kind

-- What a name means to an expression, or why not.

pub data Meaning : Type 0 where
  means : ExprValue → Meaning
  wrong : Refusal → Meaning

unfoldable pub register_bits : BitRangeEntry → ExprValue
register_bits b = ExprValue.BitRange (local Kind.Register b.register) b.first_bit b.bit_count

-- a global register or bit range
unfoldable pub global_meaning : Option Symbol → Meaning
global_meaning none = wrong undefined
global_meaning (some (Symbol.Register i x)) = means (ExprValue.Local (local Kind.Register i))
global_meaning (some (Symbol.BitRange i b)) = means (register_bits b)
global_meaning (some (Symbol.Space i x)) = wrong wrong_kind
global_meaning (some (Symbol.Table i x)) = wrong wrong_kind
global_meaning (some (Symbol.UserOp i)) = wrong wrong_kind
global_meaning (some (Symbol.Macro i x)) = wrong wrong_kind
global_meaning (some (Symbol.Other i)) = wrong wrong_kind

-- a macro parameter, else inst_next, else inst_start, else a local
unfoldable pub inner_meaning : Section → Scope → ℕ → Option ExprValue
inner_meaning sec x n =
    find n x.params
    or (when eqb n sec.header.inst_next then some (ExprValue.Local (local Kind.InstNext 0)) else none)
    or (when eqb n sec.header.inst_start then some (ExprValue.Local (local Kind.InstStart 0)) else none)
    or (and_then (find n x.mapping) λ v. some (ExprValue.Local v))

unfoldable pub meaning_of : Section → Option ExprValue → ℕ → Meaning
meaning_of sec (some x) n = means x
meaning_of sec none n = global_meaning (find n (globals sec))

unfoldable pub meaning : ℕ → Walk Meaning
meaning n = do
  sec ← section
  s ← state
  pure (meaning_of sec (inner_meaning sec s.scope n) n)

unfoldable pub meant : Meaning → Walk ExprValue
meant (means x) = pure x
meant (wrong r) = refuse r

unfoldable pub resolve_ident : ℕ → Walk ExprValue
resolve_ident n = meaning n >>= meant

-- Locals: a temporary is made, then declared under its name.

unfoldable pub named_tmp : ℕ → Option ℕ → Walk Value
named_tmp n size = do
  v ← add_tmp (some n) size
  s ← state
  let x = s.scope
  require (not (is_some (find n x.mapping))) redeclared
  change (with_scope (record { params = x.params; mapping = x.mapping ++ ((n, v) ∷ []); labels = x.labels }))
  pure v

-- Labels: 256 at most in a section.

abbrev pub with_entry : ℕ → Label → Scope → Scope
with_entry n l x = record { params = x.params; mapping = x.mapping; labels = put_entry n l x.labels }

unfoldable pub label_or : ℕ → Option Label → Walk Label
label_or n (some l) = pure l
label_or n none = do
  s ← state
  require (leb (s.next_label + 1) 256) too_many_labels
  let l : Label = record { id = s.next_label; defined = false }
  change (with_label (with_entry n l s.scope))
  pure l

unfoldable pub get_or_insert_label : ℕ → Walk Label
get_or_insert_label n = do
  s ← state
  label_or n (find n s.scope.labels)

unfoldable pub resolve_label : ℕ → Walk ℕ
resolve_label n = do
  l ← get_or_insert_label n
  require (not l.defined) label_twice
  s ← state
  change (with_scope (with_entry n (record { id = l.id; defined = true }) s.scope))
  pure l.id

-- The section's own scope has its fields and subtables.

unfoldable pub locals : Kind → ℕ → List ℕ → List (ℕ × Value)
locals k i [] = []
locals k i (n ∷ ns) = (n, local k i) ∷ locals k (suc i) ns

unfoldable pub section_scope : Section → Scope
section_scope sec = record {
  params = [];
  mapping =
      locals Kind.Field 0 (map (λ (x : FieldEntry). x.name) sec.fields)
      ++ locals Kind.Subtable 0 (map (λ (x : SubtableEntry). x.name) sec.subtables);
  labels = [];
}

-- A macro's has its parameters alone, the later of two equal ones in front.

unfoldable pub bind_params : List ℕ → List ExprValue → List (ℕ × ExprValue) → List (ℕ × ExprValue)
bind_params [] xs bound = bound
bind_params (n ∷ ns) [] bound = bound
bind_params (n ∷ ns) (x ∷ xs) bound = bind_params ns xs ((n, x) ∷ bound)

unfoldable pub macro_scope : List ℕ → List ExprValue → Scope
macro_scope params args = record { params = bind_params params args []; mapping = []; labels = [] }
