-- THE SECTION FILE: blocks, the stream that their payloads join to, and the section that it holds. Reading is strictly
-- in sequence, so the first position that is wrong gives the refusal.
use Rattle.std.specs.Prelude.{ℕ, zero, suc, ◌+◌, ◌*◌, ◌/◌, ◌%◌, Bool, true, false, ◌&&◌, not, List, [], ◌∷◌, ◌++◌, map, length, take, drop, get_or, eqb, leb, ltb}
use Rattle.std.proofs.Math.Option.{Option, none, some}
use Rattle.std.proofs.Math.ListN.{get_elem?}
use Rattle.prelude.specs.Base.{when◌then◌else◌, any, all, sum, same_numbers}
use Rattle.definition.specs.Refusals.{Refusal, bad_length, block_check, malformed}
use Rattle.definition.specs.Refusals.{outside_limit, names_nothing, spelled_twice}
use Rattle.definition.specs.Operations.{Operation, operators}
use Rattle.definition.specs.Ast.{PcodeOp, PcodeExpr, Args, no_args, arg, JumpLabel, BranchDst, BranchHint}
use Rattle.definition.specs.Ast.{Statement, SpaceKind, Space, Register, BitRange, Table, Macro, Field, Subtable}
use Rattle.definition.specs.Ast.{Header, Section}

-- what reading gives: a thing and the bytes after it, or a refusal
pub data Parsed (A : Type 0) : Type 0 where
  parsed : A → List ℕ → Parsed A
  refused : Refusal → Parsed A

abbrev pub Read : Type 0 → Type 0
Read A = List ℕ → Parsed A

-- on with what was read
unfoldable pub on : {A B : Type 0} → Parsed A → (A → Read B) → Parsed B
on (parsed a s) f = f a s
on (refused r) f = refused r

infixl 2 ◌>>=◌
abbrev pub ◌>>=◌ : {A B : Type 0} → Read A → (A → Read B) → Read B
◌>>=◌ m f s = on (m s) f

infixl 2 ◌>>◌
abbrev pub ◌>>◌ : {B : Type 0} → Read (Unit {0}) → Read B → Read B
◌>>◌ m r s = on (m s) (λ _. r)

abbrev pub pure : {A : Type 0} → A → Read A
pure a s = parsed a s

abbrev pub refuse : {A : Type 0} → Refusal → Read A
refuse r s = refused r

unfoldable pub require : Bool → Refusal → Read (Unit {0})
require true r s = parsed tt s
require false r s = refused r

-- Blocks of 512 bytes: 510 of payload, then a u16: the payload's byte sum plus the block's number, modulo 65,536.

unfoldable pub checks_out : ℕ → List ℕ → Bool
checks_out number block = eqb ((sum (take 510 block) + number) % 65536) (get_or block 510 0 + 256 * get_or block 511 0)

unfoldable pub bytes : ℕ → Read (List ℕ)
bytes n s = parsed (take n s) (drop n s)

-- the payloads of n blocks, the first of that number, joined
unfoldable pub payloads : ℕ → ℕ → Read (List ℕ)
payloads zero number = pure []
payloads (suc n) number = do
  block ← bytes 512
  require (checks_out number block) block_check
  rest ← payloads n (suc number)
  pure (take 510 block ++ rest)

unfoldable pub whole_blocks : ℕ → Bool
whole_blocks n = leb 1 n && leb n 65536 && eqb (n % 512) 0

unfoldable pub stream_of : Read (List ℕ)
stream_of file = on (require (whole_blocks (length file)) bad_length file) λ _. payloads (length file / 512) 0

-- Numbers are little-endian.

unfoldable pub u8 : Read ℕ
u8 [] = refused malformed
u8 (b ∷ s) = parsed b s

unfoldable pub little_endian : ℕ → Read ℕ
little_endian zero = pure 0
little_endian (suc n) = do
  low ← u8
  high ← little_endian n
  pure (low + 256 * high)

abbrev pub u16 : Read ℕ
u16 = little_endian 2

abbrev pub u64 : Read ℕ
u64 = little_endian 8

-- Limits, sizes, indexes, codes, lists.

unfoldable pub up_to : ℕ → ℕ → Read ℕ
up_to limit v = do
  require (leb v limit) outside_limit
  pure v

unfoldable pub naming : ℕ → ℕ → Read ℕ
naming count v = do
  require (ltb v count) names_nothing
  pure v

-- 65,535 where absent is allowed
unfoldable pub or_absent : (ℕ → Read ℕ) → ℕ → Read (Option ℕ)
or_absent check v = when eqb v 65535 then pure none else do
  w ← check v
  pure (some w)

abbrev pub size : Read ℕ
size = u16 >>= up_to 1024

abbrev pub size_or : Read (Option ℕ)
size_or = u16 >>= or_absent (up_to 1024)

abbrev pub bit_number : Read ℕ
bit_number = u16 >>= up_to 8192

abbrev pub index : ℕ → Read ℕ
index count = u16 >>= naming count

unfoldable pub choose : {A : Type 0} → Option (Read A) → Read A
choose (some r) = r
choose none = refuse malformed

-- a u8 code from 0: which of the alternatives follows
unfoldable pub code : {A : Type 0} → List (Read A) → Read A
code alternatives = do
  b ← u8
  choose (get_elem? alternatives b)

-- a u8 code from 0 of something that has no fields
unfoldable pub one_of : {A : Type 0} → List A → Read A
one_of things = code (map pure things)

-- arguments and parameters
abbrev pub small_count : Read ℕ
small_count = u8 >>= up_to 8

unfoldable pub list_of : {A : Type 0} → Read A → ℕ → Read (List A)
list_of item zero = pure []
list_of item (suc n) = do
  x ← item
  xs ← list_of item n
  pure (x ∷ xs)

unfoldable pub args_of : Read PcodeExpr → ℕ → Read Args
args_of item zero = pure no_args
args_of item (suc n) = do
  x ← item
  xs ← args_of item n
  pure (arg x xs)

-- Expressions and statements, in the order of ast.rs; the file has so many names.

-- The operators, in the order of `PcodeOp`: IntMult to IntSignedBorrow; then IntGreater, IntGreaterEqual,
-- IntSignedGreater, IntSignedGreaterEqual, FloatGreater, FloatGreaterEqual.
unfoldable pub pcode_ops : List PcodeOp
pcode_ops =
    map PcodeOp.plain operators
    ++ map PcodeOp.greater (Operation.IntLess ∷ Operation.IntLessEqual ∷ Operation.IntSignedLess
    ∷ Operation.IntSignedLessEqual ∷ Operation.FloatLess ∷ Operation.FloatLessEqual ∷ [])

module _ (names : ℕ) where
  abbrev pub name : Read ℕ
  name = index names

  abbrev pub name_or : Read (Option ℕ)
  name_or = u16 >>= or_absent (naming names)

  unfoldable pub call : {A : Type 0} → (ℕ → Args → A) → Read PcodeExpr → Read A
  call f item = do
    n ← name
    count ← small_count
    args ← args_of item count
    pure (f n args)

  -- the expressions, ahead of their parts, which `part` reads
  unfoldable pub exprs : Read PcodeExpr → List (Read PcodeExpr)
  exprs part =
      (do n ← name; pure (PcodeExpr.Ident n))
      ∷ (do v ← u64; pure (PcodeExpr.Integer v))
      ∷ (do z ← size_or; n ← name; pure (PcodeExpr.AddressOf z n))
      ∷ (do e ← part; z ← size; pure (PcodeExpr.Truncate e z))
      ∷ (do e ← part; from ← bit_number; count ← bit_number; pure (PcodeExpr.SliceBits e from count))
      ∷ (do a ← part; o ← one_of pcode_ops; b ← part; pure (PcodeExpr.Op a o b))
      ∷ (do n ← name_or; z ← size_or; e ← part; pure (PcodeExpr.Deref n z e))
      ∷ (do count ← small_count; args ← args_of part count; pure (PcodeExpr.ConstantPoolRef args))
      ∷ call PcodeExpr.Call part
      ∷ []

  -- nested so deep at most; one deeper is outside a limit at its code, once the code is known
  unfoldable pub expr_within : ℕ → Read PcodeExpr
  expr_within zero s = code (map (λ (_ : Read PcodeExpr). refuse outside_limit) (exprs (refuse outside_limit))) s
  expr_within (suc depth) s = code (exprs (expr_within depth)) s

  abbrev pub expr : Read PcodeExpr
  expr = expr_within 32

  unfoldable pub jump_label : Read JumpLabel
  jump_label = code (
      (do n ← name; pure (JumpLabel.Ident n))
      ∷ (do v ← u64; z ← size; pure (JumpLabel.Integer v z))
      ∷ [])

  unfoldable pub branch_dst : Read BranchDst
  branch_dst = code (
      (do l ← jump_label; pure (BranchDst.Direct l))
      ∷ (do l ← jump_label; pure (BranchDst.Indirect l))
      ∷ (do n ← name; pure (BranchDst.Label n))
      ∷ [])

  unfoldable pub branch_hint : Read BranchHint
  branch_hint = one_of (BranchHint.Jump ∷ BranchHint.Call ∷ BranchHint.Return ∷ [])

  unfoldable pub statement : Read Statement
  statement = code (
      pure Statement.Unimplemented
      ∷ (do e ← expr; pure (Statement.Export e))
      ∷ (do n ← name; z ← size_or; pure (Statement.Local n z))
      ∷ (do n ← name; z ← size_or; e ← expr; pure (Statement.LocalAssignment n z e))
      ∷ (do n ← name; pure (Statement.Build n))
      ∷ (do from ← expr; to ← expr; pure (Statement.Copy from to))
      ∷ (do n ← name_or; z ← size_or; pointer ← expr; value ← expr; pure (Statement.Store n z pointer value))
      ∷ call Statement.Call expr
      ∷ (do d ← branch_dst; h ← branch_hint; pure (Statement.Branch d h))
      ∷ (do c ← expr; d ← branch_dst; h ← branch_hint; pure (Statement.CondBranch c d h))
      ∷ (do n ← name; pure (Statement.Label n))
      ∷ [])

  -- Entries of the lists, each with its name, which none of the taken ones is.

  unfoldable pub entries : {A : Type 0} → (ℕ → Read A) → List ℕ → ℕ → Read (List A)
  entries entry taken zero = pure []
  entries entry taken (suc n) = do
    own ← name
    require (not (any (eqb own) taken)) spelled_twice
    x ← entry own
    xs ← entries entry (own ∷ taken) n
    pure (x ∷ xs)

  unfoldable pub space : ℕ → Read Space
  space own = do
    kind ← one_of (SpaceKind.RamSpace ∷ SpaceKind.RegisterSpace ∷ SpaceKind.OtherSpace ∷ [])
    z ← size
    pure (record { name = own; kind = kind; address_size = z })

  unfoldable pub register : ℕ → Read Register
  register own = do
    z ← size
    pure (record { name = own; size = z })

  unfoldable pub bit_range : ℕ → ℕ → Read BitRange
  bit_range registers own = do
    r ← index registers
    from ← bit_number
    count ← bit_number
    pure (record { name = own; register = r; first_bit = from; bit_count = count })

  unfoldable pub table : ℕ → Read Table
  table own = do
    z ← size_or
    pure (record { name = own; export_size = z })

  unfoldable pub macro : ℕ → Read Macro
  macro own = do
    p ← small_count
    params ← list_of name p
    count ← u16 >>= up_to 1024
    body ← list_of statement count
    pure (record { name = own; params = params; body = body })

  unfoldable pub field : ℕ → Read Field
  field own = do
    z ← size_or
    pure (record { name = own; size = z })

  unfoldable pub subtable : ℕ → ℕ → Read Subtable
  subtable tables own = do
    t ← index tables
    pure (record { name = own; table = t })

-- a spelling that none of the taken ones is: length 1 to 24, bytes
unfoldable pub spelling : List (List ℕ) → Read (List ℕ)
spelling taken = do
  n ← u8
  require (leb 1 n && leb n 24) outside_limit
  letters ← list_of u8 n
  require (not (any (same_numbers letters) taken)) spelled_twice
  pure letters

unfoldable pub spellings : List (List ℕ) → ℕ → Read (List (List ℕ))
spellings taken zero = pure []
spellings taken (suc n) = do
  x ← spelling taken
  xs ← spellings (x ∷ taken) n
  pure (x ∷ xs)

-- The header.

unfoldable pub header : Read Header
header = do
  rule_set ← u16 >>= up_to 0
  names ← u16 >>= up_to 1024
  spaces ← u16 >>= up_to 8
  registers ← u16 >>= up_to 1024
  bit_ranges ← u16 >>= up_to 1024
  tables ← u16 >>= up_to 256
  user_ops ← u16 >>= up_to 256
  macros ← u16 >>= up_to 128
  others ← u16 >>= up_to 1024
  fields ← u16 >>= up_to 64
  subtables ← u16 >>= up_to 32
  statements ← u16 >>= up_to 1024
  default_space ← u16 >>= or_absent (naming spaces)
  inst_start ← name names
  inst_next ← name names
  const ← name names
  delay_slot ← name names
  pure (record {
    rule_set = rule_set;
    names = names;
    spaces = spaces;
    registers = registers;
    bit_ranges = bit_ranges;
    tables = tables;
    user_ops = user_ops;
    macros = macros;
    others = others;
    fields = fields;
    subtables = subtables;
    statements = statements;
    default_space = default_space;
    inst_start = inst_start;
    inst_next = inst_next;
    const = const;
    delay_slot = delay_slot;
  })

-- zero after its end
unfoldable pub nothing_left : Read (Unit {0})
nothing_left s = require (all (eqb 0) s) malformed s

-- The lists follow in the header's order; statements come last.
unfoldable pub lists : Header → Read Section
lists h = do
  let n = h.names
  spelt ← spellings [] n
  spaces ← entries n (space n) [] h.spaces
  let taken = map (λ (x : Space). x.name) spaces
  registers ← entries n (register n) taken h.registers
  let taken = map (λ (x : Register). x.name) registers ++ taken
  bit_ranges ← entries n (bit_range n h.registers) taken h.bit_ranges
  let taken = map (λ (x : BitRange). x.name) bit_ranges ++ taken
  tables ← entries n (table n) taken h.tables
  let taken = map (λ (x : Table). x.name) tables ++ taken
  user_ops ← entries n pure taken h.user_ops
  let taken = user_ops ++ taken
  macros ← entries n (macro n) taken h.macros
  let taken = map (λ (x : Macro). x.name) macros ++ taken
  others ← entries n pure taken h.others
  fields ← entries n (field n) [] h.fields
  let taken = map (λ (x : Field). x.name) fields
  subtables ← entries n (subtable n h.tables) taken h.subtables
  statements ← list_of (statement n) h.statements
  nothing_left
  pure (record {
    header = h;
    names = spelt;
    spaces = spaces;
    registers = registers;
    bit_ranges = bit_ranges;
    tables = tables;
    user_ops = user_ops;
    macros = macros;
    others = others;
    fields = fields;
    subtables = subtables;
    statements = statements;
  })

unfoldable pub read_section : Read Section
read_section = header >>= lists

-- the section of a file's bytes; the whole file is read before anything is resolved
unfoldable pub read : Read Section
read file = on (stream_of file) λ stream _. read_section stream
