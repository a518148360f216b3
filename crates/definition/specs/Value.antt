-- THE VALUE, and what the resolver makes of values: actions, temporaries, the export.
use Rattle.std.specs.Prelude.{ℕ, ◌+◌, Bool, List, ◌∷◌, eqb}
use Rattle.std.proofs.Math.Option.{Option, none, some}
use Rattle.definition.specs.Operations.{Operation}

-- a value's kind: 0 to 7 in the order of `Local`
pub data Kind : Type 0 where
  InstStart InstNext Register Field Subtable SubtableRef PcodeTmp Constant : Kind

unfoldable pub kind_number : Kind → ℕ
kind_number Kind.InstStart = 0
kind_number Kind.InstNext = 1
kind_number Kind.Register = 2
kind_number Kind.Field = 3
kind_number Kind.Subtable = 4
kind_number Kind.SubtableRef = 5
kind_number Kind.PcodeTmp = 6
kind_number Kind.Constant = 7

pub record Value : Type 0 where
  pub kind : Kind
  pub number : ℕ
  pub offset : ℕ
  pub size : Option ℕ

unfoldable pub is_kind : Kind → Value → Bool
is_kind k v = eqb (kind_number k) (kind_number v.kind)

-- a value at offset 0 with no size of its own
abbrev pub local : Kind → ℕ → Value
local k n = record { kind = k; number = n; offset = 0; size = none }

abbrev pub constant : ℕ → Value
constant n = local Kind.Constant n

abbrev pub with_size : Option ℕ → Value → Value
with_size z v = record { kind = v.kind; number = v.number; offset = v.offset; size = z }

abbrev pub truncate : ℕ → Value → Value
truncate n v = with_size (some n) v

-- slicing: adds to the offset and sets the size
abbrev pub slice_bytes : ℕ → ℕ → Value → Value
slice_bytes more n v = record { kind = v.kind; number = v.number; offset = v.offset + more; size = some n }

-- the kinds of `SemanticAction`, an Op with its operation
pub data ActionKind : Type 0 where
  Op : Operation → ActionKind
  AddressOf LoadRegister StoreRegister DelaySlot Build : ActionKind

-- An action as the list has it. The number is the operation's (label, user op, Arg, hint, subpiece offset), the Build's
-- index or the register access size. AddressOf's base is input 0; a register's pointer and value are inputs 0 and 1.
pub record SemanticAction : Type 0 where
  pub kind : ActionKind
  pub number : ℕ
  pub inputs : List Value
  pub output : Option Value

-- an operation's operands: its inputs, and any output
unfoldable pub operands : Option Value → List Value → List Value
operands none inputs = inputs
operands (some v) inputs = v ∷ inputs

unfoldable pub operation_of : ActionKind → Option Operation
operation_of (ActionKind.Op op) = some op
operation_of ActionKind.AddressOf = none
operation_of ActionKind.LoadRegister = none
operation_of ActionKind.StoreRegister = none
operation_of ActionKind.DelaySlot = none
operation_of ActionKind.Build = none

pub record Temporary : Type 0 where
  pub name : Option ℕ
  pub size : Option ℕ

pub data ExportKind : Type 0 where
  PlainValue RamRef RegisterRef : ExportKind

pub record Export : Type 0 where
  pub kind : ExportKind
  pub value : Value
  pub access_size : ℕ
