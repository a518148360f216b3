-- The limits that every section read from a file keeps, as far as its action list depends on them.
use Rattle.std.specs.Prelude.{ℕ, ◌≤◌, ◌≡◌, length}
use Rattle.std.proofs.Math.Option.{Option, some}
use Rattle.std.proofs.Math.ListN.{get_elem?}
use Rattle.prelude.specs.Base.{or_else}
use Rattle.definition.specs.Ast.{PcodeOp, PcodeExpr, Args, no_args, arg, JumpLabel, BranchDst, Statement, Space, Register, BitRange, Table, Macro, Field, Section}
use Rattle.definition.specs.Expressions.{arg_count}
use Rattle.definition.specs.SectionFile.{pcode_ops}
use Rattle.definition_guarantee.specs.Tests.{Each}

-- a size, where there is one, is 1,024 at most
abbrev pub SizeWithin : Option ℕ → Type 0
SizeWithin z = or_else 0 z ≤ 1024

-- an operator is one of those that a file can hold
abbrev pub OperatorWithin : PcodeOp → Type 0
OperatorWithin o = (code : ℕ) × (get_elem? pcode_ops code ≡ some o)

unfoldable mutual
  pub ExprWithin : PcodeExpr → Type 0
  ExprWithin (PcodeExpr.Ident n) = Unit {0}
  ExprWithin (PcodeExpr.Integer v) = Unit {0}
  ExprWithin (PcodeExpr.AddressOf z n) = SizeWithin z
  ExprWithin (PcodeExpr.Truncate x z) = ExprWithin x × (z ≤ 1024)
  ExprWithin (PcodeExpr.SliceBits x from bits) = ExprWithin x × (bits ≤ 8192)
  ExprWithin (PcodeExpr.Op a o b) = ExprWithin a × OperatorWithin o × ExprWithin b
  ExprWithin (PcodeExpr.Deref n z x) = SizeWithin z × ExprWithin x
  ExprWithin (PcodeExpr.ConstantPoolRef xs) = Unit {0}
  ExprWithin (PcodeExpr.Call n xs) = (arg_count xs ≤ 8) × ArgsWithin xs

  pub ArgsWithin : Args → Type 0
  ArgsWithin no_args = Unit {0}
  ArgsWithin (arg x xs) = ExprWithin x × ArgsWithin xs

unfoldable pub JumpWithin : JumpLabel → Type 0
JumpWithin (JumpLabel.Ident n) = Unit {0}
JumpWithin (JumpLabel.Integer v z) = z ≤ 1024

unfoldable pub DestinationWithin : BranchDst → Type 0
DestinationWithin (BranchDst.Direct l) = JumpWithin l
DestinationWithin (BranchDst.Indirect l) = JumpWithin l
DestinationWithin (BranchDst.Label n) = Unit {0}

unfoldable pub StatementWithin : Statement → Type 0
StatementWithin Statement.Unimplemented = Unit {0}
StatementWithin (Statement.Export x) = ExprWithin x
StatementWithin (Statement.Local n z) = SizeWithin z
StatementWithin (Statement.LocalAssignment n z x) = SizeWithin z × ExprWithin x
StatementWithin (Statement.Build n) = Unit {0}
StatementWithin (Statement.Copy from to) = ExprWithin from × ExprWithin to
StatementWithin (Statement.Store n z pointer value) = SizeWithin z × ExprWithin pointer × ExprWithin value
StatementWithin (Statement.Call n xs) = (arg_count xs ≤ 8) × ArgsWithin xs
StatementWithin (Statement.Branch d h) = DestinationWithin d
StatementWithin (Statement.CondBranch c d h) = ExprWithin c × DestinationWithin d
StatementWithin (Statement.Label n) = Unit {0}

pub record WithinLimits (sec : Section) : Type 0 where
  pub spaces : Each (λ (x : Space). x.address_size ≤ 1024) sec.spaces
  pub registers : Each (λ (x : Register). x.size ≤ 1024) sec.registers
  pub bit_ranges : Each (λ (x : BitRange). x.bit_count ≤ 8192) sec.bit_ranges
  pub tables : Each (λ (x : Table). SizeWithin x.export_size) sec.tables
  pub user_ops : length sec.user_ops ≤ 256
  pub macros : Each (λ (x : Macro). Each StatementWithin x.body) sec.macros
  pub fields : Each (λ (x : Field). SizeWithin x.size) sec.fields
  pub statements : Each StatementWithin sec.statements
