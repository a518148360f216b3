-- THE SECTION: the syntax tree of ast.rs and the symbols of symbols.rs, as a file holds them. A name is an index into
-- the list of spellings.
use Rattle.std.specs.Prelude.{ℕ, List}
use Rattle.std.proofs.Math.Option.{Option}
use Rattle.definition.specs.Operations.{Operation}

-- An operator as written: an operation, or a greater one, which is the lesser operation with its operands swapped.
-- A file can hold 39 of them, `pcode_ops`.
pub data PcodeOp : Type 0 where
  plain greater : Operation → PcodeOp

mutual
  pub data PcodeExpr : Type 0 where
    Ident : (name : ℕ) → PcodeExpr
    Integer : (value : ℕ) → PcodeExpr
    AddressOf : (size : Option ℕ) (name : ℕ) → PcodeExpr
    Truncate : (value : PcodeExpr) (size : ℕ) → PcodeExpr
    SliceBits : (value : PcodeExpr) (first_bit bit_count : ℕ) → PcodeExpr
    Op : (a : PcodeExpr) (op : PcodeOp) (b : PcodeExpr) → PcodeExpr
    Deref : (space size : Option ℕ) (pointer : PcodeExpr) → PcodeExpr
    ConstantPoolRef : (params : Args) → PcodeExpr
    Call : (name : ℕ) (args : Args) → PcodeExpr

  pub data Args : Type 0 where
    no_args : Args
    arg : PcodeExpr → Args → Args

pub data JumpLabel : Type 0 where
  Ident : (name : ℕ) → JumpLabel
  Integer : (value size : ℕ) → JumpLabel

pub data BranchDst : Type 0 where
  Direct Indirect : JumpLabel → BranchDst
  Label : (name : ℕ) → BranchDst

pub data BranchHint : Type 0 where
  Jump Call Return : BranchHint

pub data Statement : Type 0 where
  Unimplemented : Statement
  Export : (value : PcodeExpr) → Statement
  Local : (name : ℕ) (size : Option ℕ) → Statement
  LocalAssignment : (name : ℕ) (size : Option ℕ) (expr : PcodeExpr) → Statement
  Build : (name : ℕ) → Statement
  Copy : (from to : PcodeExpr) → Statement
  Store : (space size : Option ℕ) (pointer value : PcodeExpr) → Statement
  Call : (name : ℕ) (args : Args) → Statement
  Branch : (dst : BranchDst) (hint : BranchHint) → Statement
  CondBranch : (cond : PcodeExpr) (dst : BranchDst) (hint : BranchHint) → Statement
  Label : (name : ℕ) → Statement

pub data SpaceKind : Type 0 where
  RamSpace RegisterSpace OtherSpace : SpaceKind

pub record Space : Type 0 where
  pub name : ℕ
  pub kind : SpaceKind
  pub address_size : ℕ

pub record Register : Type 0 where
  pub name : ℕ
  pub size : ℕ

pub record BitRange : Type 0 where
  pub name : ℕ
  pub register : ℕ
  pub first_bit : ℕ
  pub bit_count : ℕ

pub record Table : Type 0 where
  pub name : ℕ
  pub export_size : Option ℕ

pub record Macro : Type 0 where
  pub name : ℕ
  pub params : List ℕ
  pub body : List Statement

pub record Field : Type 0 where
  pub name : ℕ
  pub size : Option ℕ

pub record Subtable : Type 0 where
  pub name : ℕ
  pub table : ℕ

-- the rule set, how many entries each list has, the default space, and the names with a meaning of their own
pub record Header : Type 0 where
  pub rule_set : ℕ
  pub names : ℕ
  pub spaces : ℕ
  pub registers : ℕ
  pub bit_ranges : ℕ
  pub tables : ℕ
  pub user_ops : ℕ
  pub macros : ℕ
  pub others : ℕ
  pub fields : ℕ
  pub subtables : ℕ
  pub statements : ℕ
  pub default_space : Option ℕ
  pub inst_start : ℕ
  pub inst_next : ℕ
  pub const : ℕ
  pub delay_slot : ℕ

pub record Section : Type 0 where
  pub header : Header
  pub names : List (List ℕ)
  pub spaces : List Space
  pub registers : List Register
  pub bit_ranges : List BitRange
  pub tables : List Table
  pub user_ops : List ℕ
  pub macros : List Macro
  pub others : List ℕ
  pub fields : List Field
  pub subtables : List Subtable
  pub statements : List Statement
