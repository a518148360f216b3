-- THE STATEMENT RULES, statements and macros.
use Rattle.std.specs.Prelude.{ℕ, zero, suc, ◌+◌, ◌*◌, ◌-◌, ◌/◌, ◌%◌, ◌^◌, not, List, [], ◌∷◌, map, length, take, eqb, leb, ltb}
use Rattle.std.proofs.Math.Option.{Option, none, some}
use Rattle.prelude.specs.Base.{when◌then◌else◌, and_then, is_some, position, sum}
use Rattle.definition.specs.Refusals.{too_many_statements, macro_too_deep, after_export, undefined, wrong_kind, absent_table, delay_slot_argument, macro_arguments, store_to_no_address, jump_to_non_local, not_assignable, shift_too_far}
use Rattle.definition.specs.Operations.{Operation}
use Rattle.definition.specs.Value.{Kind, Value, is_kind, constant, ActionKind, ExportKind, Export}
use Rattle.definition.specs.Ast.{PcodeExpr, Args, JumpLabel, BranchDst, BranchHint, Statement, Macro, Subtable}
use Rattle.definition.specs.Sizes.{pointer_size}
use Rattle.definition.specs.Walk.{ExprValue, State, Walk, ◌>>=◌, ◌>>◌, pure, refuse, require, expect, section, state, change, state_of, with_scope, with_sizing, with_export, known_size, sliced, add_tmp, push, op, op_no_output}
use Rattle.definition.specs.Scope.{Symbol, lookup, as_table, Meaning, means, wrong, meaning, resolve_ident, named_tmp, get_or_insert_label, resolve_label, macro_scope}
use Rattle.definition.specs.Expressions.{mask, set_stated, take_stated, byte_aligned, read_value, value_of, read_all, as_local, resolve_address, only_integer, resolve_expr, resolve_args}

-- Targets.

pub data Destination : Type 0 where
  Local : Value → Destination
  RamRef : Value → ℕ → Destination
  BitRange : Value → ℕ → ℕ → Destination

unfoldable pub as_destination : ExprValue → Walk Destination
as_destination (ExprValue.Local v) = pure (Destination.Local v)
as_destination (ExprValue.RamRef pointer size) = pure (Destination.RamRef pointer size)
as_destination (ExprValue.BitRange v from bits) = pure (Destination.BitRange v from bits)
as_destination (ExprValue.Unbound v) = refuse not_assignable
as_destination (ExprValue.Const n z) = refuse not_assignable
as_destination (ExprValue.Apply operation n vs) = refuse not_assignable
as_destination (ExprValue.RegisterRef pointer z) = refuse not_assignable
as_destination (ExprValue.AddressOf v z) = refuse not_assignable

unfoldable pub as_name : PcodeExpr → Option ℕ
as_name (PcodeExpr.Ident n) = some n
as_name (PcodeExpr.Integer v) = none
as_name (PcodeExpr.AddressOf z n) = none
as_name (PcodeExpr.Truncate x z) = none
as_name (PcodeExpr.SliceBits x from bits) = none
as_name (PcodeExpr.Op a o b) = none
as_name (PcodeExpr.Deref n z x) = none
as_name (PcodeExpr.ConstantPoolRef xs) = none
as_name (PcodeExpr.Call n xs) = none

-- a name as target, bare or truncated, with its size
unfoldable pub target_name : PcodeExpr → Option (ℕ × Option ℕ)
target_name (PcodeExpr.Ident n) = some (n, none)
target_name (PcodeExpr.Truncate x z) = and_then (as_name x) λ n. some (n, some z)
target_name (PcodeExpr.Integer v) = none
target_name (PcodeExpr.AddressOf z n) = none
target_name (PcodeExpr.SliceBits x from bits) = none
target_name (PcodeExpr.Op a o b) = none
target_name (PcodeExpr.Deref n z x) = none
target_name (PcodeExpr.ConstantPoolRef xs) = none
target_name (PcodeExpr.Call n xs) = none

-- an unknown or disallowed name becomes a temporary
unfoldable pub dst_meaning : PcodeExpr → ℕ → Option ℕ → Meaning → Walk Destination
dst_meaning to n size (means x) = resolve_expr to >>= as_destination
dst_meaning to n size (wrong r) = do
  v ← named_tmp n size
  pure (Destination.Local v)

unfoldable pub dst_named : PcodeExpr → Option (ℕ × Option ℕ) → Walk Destination
dst_named to none = resolve_expr to >>= as_destination
dst_named to (some n) = meaning n.0 >>= dst_meaning to n.0 n.1

unfoldable pub resolve_dst : PcodeExpr → Walk Destination
resolve_dst to = dst_named to (target_name to)

-- Copies and stores.

unfoldable pub store : ℕ → Value → Value → Walk (Unit {0})
store size pointer v = do
  v ← take_stated size v
  op_no_output Operation.Store 0 (pointer ∷ v ∷ [])

-- all 64 bits but those of a bit write
abbrev pub mask_but : ℕ → ℕ → ℕ
mask_but from bits = mask 64 - (mask bits * 2 ^ from) % 2 ^ 64

unfoldable pub write_bits : ExprValue → Value → ℕ → ℕ → Walk (Unit {0})
write_bits x to from bits = do
  v ← read_value x none
  require (ltb from 64) shift_too_far
  size ← known_size to
  prev ← add_tmp none size
  _ ← op Operation.IntAnd 0 (to ∷ constant (mask_but from bits) ∷ []) (some prev)
  size ← known_size to
  tmp ← add_tmp none size
  _ ← op Operation.ZeroExtend 0 (v ∷ []) (some tmp)
  _ ← op Operation.IntAnd 0 (tmp ∷ constant (mask bits) ∷ []) (some tmp)
  _ ← op Operation.IntLeft 0 (tmp ∷ constant from ∷ []) (some tmp)
  _ ← op Operation.IntOr 0 (prev ∷ tmp ∷ []) (some to)
  pure tt

unfoldable pub read_to : ExprValue → Value → Walk (Unit {0})
read_to x to = do
  _ ← read_value x (some to)
  pure tt

unfoldable pub copy_into : ExprValue → Destination → Walk (Unit {0})
copy_into x (Destination.Local to) = read_to x to
copy_into x (Destination.RamRef pointer size) = do
  v ← read_value x none
  store size pointer v
copy_into x (Destination.BitRange to from bits) =
    when byte_aligned from bits then sliced (from / 8) (bits / 8) to >>= read_to x else write_bits x to from bits

-- References: a pointer into RAM or into the register space, and the size of what it points to.

pub data Reference : Type 0 where
  to_ram to_register : (pointer : Value) (size : ℕ) → Reference

unfoldable pub as_reference : ExprValue → Option Reference
as_reference (ExprValue.RamRef pointer size) = some (to_ram pointer size)
as_reference (ExprValue.RegisterRef pointer size) = some (to_register pointer size)
as_reference (ExprValue.Local v) = none
as_reference (ExprValue.Unbound v) = none
as_reference (ExprValue.Const n z) = none
as_reference (ExprValue.Apply operation n vs) = none
as_reference (ExprValue.AddressOf v z) = none
as_reference (ExprValue.BitRange v from bits) = none

unfoldable pub store_register : ℕ → Value → Value → Walk (Unit {0})
store_register size pointer v = do
  v ← set_stated size v
  push (record { kind = ActionKind.StoreRegister; number = size; inputs = pointer ∷ v ∷ []; output = none })

unfoldable pub store_in : Reference → Value → Walk (Unit {0})
store_in (to_ram pointer size) v = store size pointer v
store_in (to_register pointer size) v = store_register size pointer v

unfoldable pub store_at : Value → ExprValue → Walk (Unit {0})
store_at v x = do
  to ← expect store_to_no_address (as_reference x)
  store_in to v

-- The export: a reference stays one, anything else is read.

unfoldable pub exported : Reference → Export
exported (to_ram pointer size) = record { kind = ExportKind.RamRef; value = pointer; access_size = size }
exported (to_register pointer size) = record { kind = ExportKind.RegisterRef; value = pointer; access_size = size }

unfoldable pub export_of : ExprValue → Option Reference → Walk Export
export_of x (some reference) = pure (exported reference)
export_of x none = do
  v ← read_value x none
  pure (record { kind = ExportKind.PlainValue; value = v; access_size = 0 })

-- Builds: the first subtable of the table.

unfoldable pub build : ℕ → Walk (Unit {0})
build name = do
  table ← lookup name >>= as_table
  sec ← section
  i ← expect absent_table (position (λ (x : Subtable). eqb table x.table) 0 sec.subtables)
  push (record { kind = ActionKind.Build; number = i; inputs = []; output = none })

-- Branches.

unfoldable pub hint_number : BranchHint → ℕ
hint_number BranchHint.Jump = 0
hint_number BranchHint.Call = 1
hint_number BranchHint.Return = 2

unfoldable pub jump_value : JumpLabel → Walk ExprValue
jump_value (JumpLabel.Ident n) = resolve_ident n
jump_value (JumpLabel.Integer v size) = pure (ExprValue.Const v (some size))

abbrev pub subtable_ref : ℕ → Value → Value
subtable_ref size v = record { kind = Kind.SubtableRef; number = v.number; offset = v.offset; size = some size }

-- A direct jump to a subtable takes its SubtableRef at pointer size.
unfoldable pub direct_address : ExprValue → Walk Value
direct_address x = do
  sec ← section
  v ← expect jump_to_non_local (as_local x)
  pure (when is_kind Kind.Subtable v then subtable_ref (pointer_size sec) v else v)

unfoldable pub resolve_branch : Value → BranchDst → BranchHint → Walk (Unit {0})
resolve_branch cond (BranchDst.Direct l) hint = do
  x ← jump_value l
  address ← direct_address x
  op_no_output Operation.Branch (hint_number hint) (cond ∷ address ∷ [])
resolve_branch cond (BranchDst.Indirect l) hint = do
  x ← jump_value l
  address ← read_value x none
  op_no_output Operation.Branch (hint_number hint) (cond ∷ address ∷ [])
resolve_branch cond (BranchDst.Label n) hint = do
  l ← get_or_insert_label n
  op_no_output Operation.PcodeBranch l.id (cond ∷ constant 0 ∷ [])

-- Calls: the delay slot, then user ops and macros. `enter` resolves the body of the macro with that number.

unfoldable pub delay_slot : Option ℕ → Walk (Unit {0})
delay_slot argument = do
  n ← expect delay_slot_argument argument
  require (eqb n 1) delay_slot_argument
  push (record { kind = ActionKind.DelaySlot; number = 0; inputs = []; output = none })

unfoldable pub user_op_statement : ℕ → Args → Walk (Unit {0})
user_op_statement id args = do
  xs ← resolve_args args
  vs ← read_all xs
  op_no_output Operation.PcodeOp id vs

module _ (enter : ℕ → Macro → List ExprValue → Walk (Unit {0})) where
  unfoldable pub macro_statement : ℕ → Macro → Args → Walk (Unit {0})
  macro_statement id m args = do
    xs ← resolve_args args
    require (eqb (length m.params) (length xs)) macro_arguments
    enter id m xs

  unfoldable pub symbol_statement : Args → Option Symbol → Walk (Unit {0})
  symbol_statement args none = refuse undefined
  symbol_statement args (some (Symbol.UserOp i)) = user_op_statement i args
  symbol_statement args (some (Symbol.Macro i m)) = macro_statement i m args
  symbol_statement args (some (Symbol.Space i x)) = refuse wrong_kind
  symbol_statement args (some (Symbol.Register i x)) = refuse wrong_kind
  symbol_statement args (some (Symbol.BitRange i x)) = refuse wrong_kind
  symbol_statement args (some (Symbol.Table i x)) = refuse wrong_kind
  symbol_statement args (some (Symbol.Other i)) = refuse wrong_kind

  unfoldable pub call_statement : ℕ → Args → Walk (Unit {0})
  call_statement name args = do
    sec ← section
    when eqb name sec.header.delay_slot then delay_slot (only_integer args) else lookup name >>= symbol_statement args

  unfoldable pub resolve_statement : Statement → Walk (Unit {0})
  resolve_statement Statement.Unimplemented = op_no_output Operation.Invalid 0 []
  resolve_statement (Statement.Export value) = do
    x ← resolve_expr value
    export ← export_of x (as_reference x)
    change (with_export export)
  resolve_statement (Statement.Local name size) = do
    _ ← named_tmp name size
    pure tt
  resolve_statement (Statement.LocalAssignment name size expr) = do
    to ← named_tmp name size
    x ← resolve_expr expr
    read_to x to
  resolve_statement (Statement.Build name) = build name
  resolve_statement (Statement.Copy from to) = do
    x ← resolve_expr from
    d ← resolve_dst to
    copy_into x d
  resolve_statement (Statement.Store space size pointer value) = do
    v ← value_of (resolve_expr value)
    x ← resolve_address space size (resolve_expr pointer)
    store_at v x
  resolve_statement (Statement.Call name args) = call_statement name args
  resolve_statement (Statement.Branch dst hint) = resolve_branch (constant 1) dst hint
  resolve_statement (Statement.CondBranch cond dst hint) = do
    v ← value_of (resolve_expr cond)
    resolve_branch v dst hint
  resolve_statement (Statement.Label name) = do
    id ← resolve_label name
    op_no_output Operation.PcodeLabel id []

-- Ordinals count statements from 0 in file order, macro bodies included: the first after those macros.
unfoldable pub ordinal_after : List Macro → ℕ
ordinal_after macros = sum (map (λ (m : Macro). length m.body) macros)

-- A statement begins: it has its ordinal, may not follow an export, and is counted up to 4,096.

unfoldable pub begin_at : ℕ → State → State
begin_at ordinal s =
    let z = s.sizing in
    with_sizing (record { begun = some ordinal; temporaries = z.temporaries; errors = z.errors }) s

unfoldable pub counted : State → State
counted s = state_of (suc s.statements) s.scope s.next_label s.sizing s.actions s.export

unfoldable pub begin : ℕ → Walk (Unit {0})
begin ordinal = do
  change (begin_at ordinal)
  s ← state
  require (not (is_some s.export)) after_export
  require (leb (s.statements + 1) 4096) too_many_statements
  change counted

-- a list of statements, the first with that ordinal
unfoldable pub resolve_all : (Statement → Walk (Unit {0})) → ℕ → List Statement → Walk (Unit {0})
resolve_all resolve ordinal [] = pure tt
resolve_all resolve ordinal (x ∷ xs) = do
  begin ordinal
  resolve x
  resolve_all resolve (suc ordinal) xs

-- a macro's body in a scope of its own; then the caller's scope again
unfoldable pub enter_macro : (ℕ → List Statement → Walk (Unit {0})) → ℕ → Macro → List ExprValue → Walk (Unit {0})
enter_macro body id m xs = do
  sec ← section
  s ← state
  change (with_scope (macro_scope m.params xs))
  body (ordinal_after (take id sec.macros)) m.body
  change (with_scope s.scope)

-- with macro calls so deep at most
unfoldable pub resolve_body : ℕ → ℕ → List Statement → Walk (Unit {0})
resolve_body zero ordinal body = resolve_all (resolve_statement λ id m xs. refuse macro_too_deep) ordinal body
resolve_body (suc depth) ordinal body = resolve_all (resolve_statement (enter_macro (resolve_body depth))) ordinal body
