-- THE STATEMENT RULES, expressions: resolved first, read later.
use Rattle.std.specs.Prelude.{ℕ, suc, ◌+◌, ◌*◌, ◌-◌, ◌/◌, ◌%◌, ◌^◌, min, Bool, ◌&&◌, List, [], ◌∷◌, take, drop, get_or, eqb, leb, ltb}
use Rattle.std.proofs.Math.Option.{Option, none, some}
use Rattle.std.proofs.Math.ListN.{get_elem?}
use Rattle.prelude.specs.Base.{when◌then◌else◌, ◌or◌, or_else, and_then, contains}
use Rattle.definition.specs.Refusals.{address_of_non_local, address_of_offset, constant_pool, argument_count, macro_in_expression, subpiece_argument, slice_past_end, const_space, no_default_space, other_space, shift_too_far}
use Rattle.definition.specs.Operations.{Operation}
use Rattle.definition.specs.Value.{Value, local, constant, with_size, truncate, ActionKind}
use Rattle.definition.specs.Ast.{PcodeOp, PcodeExpr, Args, no_args, arg, SpaceKind, Space}
use Rattle.definition.specs.Spellings.{Inbuilt, translate_inbuilt_func}
use Rattle.definition.specs.Sizes.{set_size}
use Rattle.definition.specs.Walk.{ExprValue, Walk, ◌>>=◌, ◌>>◌, pure, refuse, require, expect, section, by_sizes, known_size, sliced, add_tmp, output_or, push, op, op_no_output}
use Rattle.definition.specs.Scope.{Symbol, lookup, as_space, resolve_ident}

-- Masks have the low n bits set, all 64 from n = 64.

abbrev pub mask : ℕ → ℕ
mask n = 2 ^ min n 64 - 1

-- the bits of x that such a mask keeps
abbrev pub masked : ℕ → ℕ → ℕ
masked n x = x % 2 ^ min n 64

abbrev pub needed_bytes : ℕ → ℕ
needed_bytes bits = (bits + 7) / 8

-- Reading.

unfoldable pub copy_to : Option Value → Value → Walk Value
copy_to none v = pure v
copy_to (some to) v = op Operation.Copy 0 (v ∷ []) (some to)

-- a register access's stated size is set as under Sizes; 0 sets none
unfoldable pub set_stated : ℕ → Value → Walk Value
set_stated size v = when eqb size 0 then pure v else by_sizes λ sec. set_size sec size v

unfoldable pub take_known : Option ℕ → ℕ → Value → Walk Value
take_known (some known) size v = pure (truncate size v)
take_known none size v = by_sizes λ sec. set_size sec size v

-- a RAM access's stated size is taken silently; 0 sets none
unfoldable pub take_stated : ℕ → Value → Walk Value
take_stated size v = when eqb size 0 then pure v else do
  known ← known_size v
  take_known known size v

unfoldable pub byte_aligned : ℕ → ℕ → Bool
byte_aligned from bits = eqb (from % 8) 0 && eqb (bits % 8) 0

unfoldable pub shift_and_mask : Value → ℕ → ℕ → Walk Value
shift_and_mask v from bits = do
  size ← known_size v
  tmp ← add_tmp none size
  _ ← op Operation.IntRight 0 (v ∷ constant from ∷ []) (some tmp)
  _ ← op Operation.IntAnd 0 (tmp ∷ constant (mask bits) ∷ []) (some tmp)
  pure (truncate (needed_bytes bits) tmp)

unfoldable pub read_slice : Value → ℕ → ℕ → Option Value → Walk Value
read_slice v from bits to = do
  part ← when byte_aligned from bits then sliced (from / 8) (bits / 8) v else shift_and_mask v from bits
  copy_to to part

-- the value, in the output where one is given
unfoldable pub read_value : ExprValue → Option Value → Walk Value
read_value (ExprValue.Local v) to = copy_to to v
read_value (ExprValue.Unbound v) to = copy_to to v
read_value (ExprValue.Const n size) to = copy_to to (with_size size (constant n))
read_value (ExprValue.BitRange v from bits) to = read_slice v from bits to
read_value (ExprValue.Apply operation n inputs) to = op operation n inputs to
read_value (ExprValue.AddressOf base size) to = do
  require (eqb base.offset 0) address_of_offset
  out ← output_or size to
  let place = local base.kind base.number
  push (record { kind = ActionKind.AddressOf; number = 0; inputs = place ∷ []; output = some out })
  pure out
read_value (ExprValue.RamRef pointer size) to = do
  out ← output_or none to
  out ← take_stated size out
  op Operation.Load 0 (pointer ∷ []) (some out)
read_value (ExprValue.RegisterRef pointer size) to = do
  out ← output_or (some size) to
  out ← set_stated size out
  push (record { kind = ActionKind.LoadRegister; number = size; inputs = pointer ∷ []; output = some out })
  pure out

-- `resolve_expr_value`
abbrev pub value_of : Walk ExprValue → Walk Value
value_of resolve = do
  x ← resolve
  read_value x none

unfoldable pub read_all : List ExprValue → Walk (List Value)
read_all [] = pure []
read_all (x ∷ xs) = do
  v ← read_value x none
  vs ← read_all xs
  pure (v ∷ vs)

-- Slices. One of a local has no bound; what cannot be sliced unread is read first.

unfoldable pub slice_read : ℕ → ℕ → ExprValue → Walk ExprValue
slice_read from bits x = do
  v ← read_value x none
  part ← read_slice v from bits none
  pure (ExprValue.Unbound part)

unfoldable pub slice_bits : ℕ → ℕ → ExprValue → Walk ExprValue
slice_bits from bits (ExprValue.Local v) = pure (ExprValue.BitRange v from bits)
slice_bits from bits (ExprValue.Const n size) = do
  require (leb (from + bits) (8 * or_else 8 size)) slice_past_end
  require (ltb from 64) shift_too_far
  pure (ExprValue.Const (masked bits (n / 2 ^ from)) (some (needed_bytes bits)))
slice_bits from bits (ExprValue.BitRange v before whole) = do
  require (leb (from + bits) whole) slice_past_end
  pure (ExprValue.BitRange v (before + from) bits)
slice_bits from bits (ExprValue.Unbound v) = slice_read from bits (ExprValue.Unbound v)
slice_bits from bits (ExprValue.Apply operation n vs) = slice_read from bits (ExprValue.Apply operation n vs)
slice_bits from bits (ExprValue.RamRef v z) = slice_read from bits (ExprValue.RamRef v z)
slice_bits from bits (ExprValue.RegisterRef v z) = slice_read from bits (ExprValue.RegisterRef v z)
slice_bits from bits (ExprValue.AddressOf v z) = slice_read from bits (ExprValue.AddressOf v z)

-- what is a local, and nothing else
unfoldable pub as_local : ExprValue → Option Value
as_local (ExprValue.Local v) = some v
as_local (ExprValue.Unbound v) = none
as_local (ExprValue.Const n z) = none
as_local (ExprValue.Apply operation n vs) = none
as_local (ExprValue.RamRef v z) = none
as_local (ExprValue.RegisterRef v z) = none
as_local (ExprValue.AddressOf v z) = none
as_local (ExprValue.BitRange v from bits) = none

-- Addresses.

-- the named space, else the default one
unfoldable pub resolve_space : Option ℕ → Walk Space
resolve_space (some n) = lookup n >>= as_space
resolve_space none = do
  sec ← section
  expect no_default_space (and_then sec.header.default_space (get_elem? sec.spaces))

unfoldable pub in_const_space : Option ℕ → ExprValue → Walk ExprValue
in_const_space size (ExprValue.Local v) = pure (ExprValue.Local (with_size (size or v.size) v))
in_const_space size (ExprValue.Const n z) = pure (ExprValue.Const n (size or z))
in_const_space size (ExprValue.Unbound v) = refuse const_space
in_const_space size (ExprValue.Apply operation n vs) = refuse const_space
in_const_space size (ExprValue.RamRef v z) = refuse const_space
in_const_space size (ExprValue.RegisterRef v z) = refuse const_space
in_const_space size (ExprValue.AddressOf v z) = refuse const_space
in_const_space size (ExprValue.BitRange v from bits) = refuse const_space

unfoldable pub reference : SpaceKind → Value → ℕ → Walk ExprValue
reference SpaceKind.RamSpace pointer size = pure (ExprValue.RamRef pointer size)
reference SpaceKind.RegisterSpace pointer size = pure (ExprValue.RegisterRef pointer size)
reference SpaceKind.OtherSpace pointer size = refuse other_space

unfoldable pub address_in : Option ℕ → Option ℕ → ExprValue → Walk ExprValue
address_in space size x = do
  to ← resolve_space space
  pointer ← read_value x none
  reference to.kind pointer (or_else 0 size)

unfoldable pub resolve_address : Option ℕ → Option ℕ → Walk ExprValue → Walk ExprValue
resolve_address space size pointer = do
  x ← pointer
  sec ← section
  when contains sec.header.const space then in_const_space size x else address_in space size x

-- Operators. The six greater ones swap their operands before either is resolved.

unfoldable pub binary : Operation → Walk Value → Walk Value → Walk ExprValue
binary operation a b = do
  left ← a
  right ← b
  pure (ExprValue.Apply operation 0 (left ∷ right ∷ []))

unfoldable pub resolve_op : PcodeOp → Walk Value → Walk Value → Walk ExprValue
resolve_op (PcodeOp.plain operation) a b = binary operation a b
resolve_op (PcodeOp.greater operation) a b = binary operation b a

-- Calls.

-- the arguments of a user op from the third on, each followed by its Arg, from number i
unfoldable pub pass_args : ℕ → List ExprValue → Walk (Unit {0})
pass_args i [] = pure tt
pass_args i (x ∷ xs) = do
  v ← read_value x none
  op_no_output Operation.Arg i (v ∷ [])
  pass_args (suc i) xs

unfoldable pub call_user_op : ℕ → List ExprValue → Walk ExprValue
call_user_op id xs = do
  pass_args 0 (drop 2 xs)
  vs ← read_all (take 2 xs)
  pure (ExprValue.Apply Operation.PcodeOp id vs)

unfoldable pub arg_count : Args → ℕ
arg_count no_args = 0
arg_count (arg x xs) = suc (arg_count xs)

unfoldable pub as_integer : PcodeExpr → Option ℕ
as_integer (PcodeExpr.Integer n) = some n
as_integer (PcodeExpr.Ident n) = none
as_integer (PcodeExpr.AddressOf z n) = none
as_integer (PcodeExpr.Truncate x z) = none
as_integer (PcodeExpr.SliceBits x from bits) = none
as_integer (PcodeExpr.Op a o b) = none
as_integer (PcodeExpr.Deref n z x) = none
as_integer (PcodeExpr.ConstantPoolRef xs) = none
as_integer (PcodeExpr.Call n xs) = none

-- the number that is the one argument
unfoldable pub only_integer : Args → Option ℕ
only_integer no_args = none
only_integer (arg x no_args) = as_integer x
only_integer (arg x (arg y ys)) = none

-- a call of a local: part of it, from a byte on
unfoldable pub subpiece : ℕ → Args → Walk ExprValue
subpiece name args = do
  v ← value_of (resolve_ident name)
  n ← expect subpiece_argument (only_integer args)
  require (leb n 255) subpiece_argument
  pure (ExprValue.Apply Operation.Subpiece n (v ∷ []))

unfoldable pub call_symbol : ℕ → Args → Walk (List ExprValue) → Option Symbol → Walk ExprValue
call_symbol name args resolved none = subpiece name args
call_symbol name args resolved (some (Symbol.UserOp i)) = resolved >>= call_user_op i
call_symbol name args resolved (some (Symbol.Macro i m)) = refuse macro_in_expression
call_symbol name args resolved (some (Symbol.Space i x)) = subpiece name args
call_symbol name args resolved (some (Symbol.Register i x)) = subpiece name args
call_symbol name args resolved (some (Symbol.BitRange i x)) = subpiece name args
call_symbol name args resolved (some (Symbol.Table i x)) = subpiece name args
call_symbol name args resolved (some (Symbol.Other i)) = subpiece name args

unfoldable pub call_inbuilt : Inbuilt → Args → Walk (List Value) → Walk ExprValue
call_inbuilt f args values = do
  require (eqb (arg_count args) f.arguments) argument_count
  vs ← values
  pure (ExprValue.Apply f.op 0 vs)

-- The built-in spellings come before any symbol.
unfoldable pub call_named : ℕ → Args → Walk (List Value) → Walk (List ExprValue) → Option Inbuilt → Walk ExprValue
call_named name args values resolved (some f) = call_inbuilt f args values
call_named name args values resolved none = lookup name >>= call_symbol name args resolved

-- The arguments come in three forms: as written, for their number and for the one integer of a subpiece; as values,
-- each read before the next is resolved, for a built-in function; as resolved only, for a user op, which resolves all
-- of them before it reads any.
unfoldable pub resolve_call : ℕ → Args → Walk (List Value) → Walk (List ExprValue) → Walk ExprValue
resolve_call name args values resolved = do
  sec ← section
  call_named name args values resolved (translate_inbuilt_func (get_or sec.names name []))

unfoldable mutual
  pub resolve_expr : PcodeExpr → Walk ExprValue
  resolve_expr (PcodeExpr.Ident n) = resolve_ident n
  resolve_expr (PcodeExpr.Integer v) = pure (ExprValue.Const v none)
  resolve_expr (PcodeExpr.AddressOf size n) = do
    x ← resolve_ident n
    base ← expect address_of_non_local (as_local x)
    pure (ExprValue.AddressOf base size)
  resolve_expr (PcodeExpr.Truncate x size) = resolve_expr x >>= slice_bits 0 (8 * size)
  resolve_expr (PcodeExpr.SliceBits x from bits) = resolve_expr x >>= slice_bits from bits
  resolve_expr (PcodeExpr.Op a o b) = resolve_op o (value_of (resolve_expr a)) (value_of (resolve_expr b))
  resolve_expr (PcodeExpr.Deref space size pointer) = resolve_address space size (resolve_expr pointer)
  resolve_expr (PcodeExpr.ConstantPoolRef args) = refuse constant_pool
  resolve_expr (PcodeExpr.Call name args) = resolve_call name args (resolve_arg_values args) (resolve_args args)

  pub resolve_args : Args → Walk (List ExprValue)
  resolve_args no_args = pure []
  resolve_args (arg x xs) = do
    v ← resolve_expr x
    vs ← resolve_args xs
    pure (v ∷ vs)

  -- `resolve_inbuilt`: each argument is read before the next is resolved
  pub resolve_arg_values : Args → Walk (List Value)
  resolve_arg_values no_args = pure []
  resolve_arg_values (arg x xs) = do
    v ← value_of (resolve_expr x)
    vs ← resolve_arg_values xs
    pure (v ∷ vs)
