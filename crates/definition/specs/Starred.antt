-- THE STARRED SECTIONS of document 01: a file, its macros and statements, and what the definitions say of it.
use Rattle.std.specs.Prelude.{ℕ, zero, suc, ◌+◌, ◌*◌, ◌/◌, ◌%◌, ◌^◌, Bool, true, false, List, [], ◌∷◌, ◌++◌}
use Rattle.std.proofs.Math.Option.{none}
use Rattle.definition.specs.Operations.{Operation}
use Rattle.definition.specs.Ast.{PcodeOp, PcodeExpr, no_args, JumpLabel, BranchDst, BranchHint, Statement, Macro, Section}
use Rattle.definition.specs.SectionFile.{read}
use Rattle.definition.specs.ActionList.{Answer, numbers, filled, when_read, resolve}
use Rattle.definition.specs.Premise.{premise_failures}
use Rattle.definition.specs.Passing.{checked}

pub record WorkedSection : Type 0 where
  pub file : List ℕ
  -- what the file holds
  pub macros : List Macro
  pub statements : List Statement
  -- the twelve numbers, and the words of both lists
  pub result : List ℕ
  pub actions : List ℕ
  pub temporaries : List ℕ
  -- the temporaries at which the premise fails
  pub failures : List ℕ
  -- whether the section is accepted and its list passes the checker
  pub checked : Bool

-- What the definitions say of a file, with lent lists of 240 and 8 words.
unfoldable pub worked : List ℕ → WorkedSection
worked file =
    let answer : Answer = resolve file 240 8 in
    record {
      file = file;
      macros = when_read (λ r. []) (λ (sec : Section). sec.macros) (read file);
      statements = when_read (λ r. []) (λ (sec : Section). sec.statements) (read file);
      result = numbers answer.result;
      actions = answer.actions;
      temporaries = answer.temporaries;
      failures = premise_failures file 240 8;
      checked = checked file 240 8;
    }

-- Files of one block: its bytes, zeros, its check.

-- the n bytes of a number, the highest first, in front of others
unfoldable pub bytes_before : ℕ → ℕ → List ℕ → List ℕ
bytes_before zero x tail = tail
bytes_before (suc n) x tail = bytes_before n (x / 256) (x % 256 ∷ tail)

abbrev pub hex : ℕ → ℕ → List ℕ
hex n x = bytes_before n x []

unfoldable pub block : ℕ → List ℕ → List ℕ
block sum bytes = filled 510 bytes ++ (sum % 256 ∷ sum / 256 ∷ [])

-- the names that every file begins with: inst_start, inst_next, const, delayslot, ram, register, r4, s4
unfoldable pub first_names : List ℕ
first_names =
    hex 28 0x0a696e73745f737461727409696e73745f6e65787405636f6e737409
    ++ hex 28 0x64656c6179736c6f740372616d087265676973746572027234027334

-- ram and register, with addresses of 8 and 4 bytes; r4 and s4, of 4 bytes
unfoldable pub spaces_and_registers : List ℕ
spaces_and_registers = hex 18 0x040000080005000104000600040007000400

-- Names are numbers: those of every file, then a file's own from 8 on.

abbrev inst_next : ℕ
inst_next = 1

abbrev pub r4 : ℕ
r4 = 6

abbrev pub s4 : ℕ
s4 = 7

abbrev table_a : ℕ
table_a = 8

abbrev local_a : ℕ
local_a = 8

abbrev local_b : ℕ
local_b = 9

abbrev local_c : ℕ
local_c = 10

abbrev local_d : ℕ
local_d = 11

abbrev pub local_x : ℕ
local_x = 8

abbrev label_l : ℕ
label_l = 8

abbrev macro_m : ℕ
macro_m = 9

abbrev pub ident : ℕ → PcodeExpr
ident name = PcodeExpr.Ident name

-- Lists: the words of each action up to the last that is not zero.

unfoldable pub padded : List (List ℕ) → List ℕ
padded [] = []
padded (row ∷ rows) = filled 24 row ++ padded rows

abbrev pub rows : List (List ℕ) → List ℕ
rows actions = filled 240 (padded actions)

-- the two words of a temporary, a register, a constant, inst_next with a size; of no output

abbrev pub tmp : ℕ → ℕ → List ℕ
tmp n size = n ∷ (6 + 2 ^ 24 * size) ∷ []

abbrev pub reg : ℕ → ℕ → List ℕ
reg n size = n ∷ (2 + 2 ^ 24 * size) ∷ []

abbrev con : ℕ → ℕ → List ℕ
con n size = n ∷ (7 + 2 ^ 24 * size) ∷ []

abbrev next : ℕ → List ℕ
next size = 0 ∷ (1 + 2 ^ 24 * size) ∷ []

abbrev no_value : List ℕ
no_value = 0 ∷ 255 ∷ []

-- the word of a temporary that has a name, or 65,535, and a size
abbrev pub named : ℕ → ℕ → ℕ
named name size = name + 65536 * size

unfoldable pub starred_sections : List WorkedSection
starred_sections =
    -- Empty: no actions, 0 points.
    record {
      file = block 5246 (
          hex 34 0x00000800020002000000000000000000000000000000000000000000010002000300
          ++ first_names ++ spaces_and_registers);
      macros = [];
      statements = [];
      result = 0 ∷ 65535 ∷ 0 ∷ 0 ∷ 0 ∷ 0 ∷ 0 ∷ 0 ∷ 0 ∷ 0 ∷ 0 ∷ 0 ∷ [];
      actions = rows [];
      temporaries = filled 8 [];
      failures = [];
      checked = true;
    }
    -- Subtables a, b and `build a`: Build 1, Build 0.
    ∷ record {
      file = block 6517 (
          hex 34 0x00000a00020002000000020000000000000000000200010000000000010002000300
          ++ first_names ++ hex 4 0x01610162 ++ spaces_and_registers
          ++ hex 19 0x0800ffff0900ffff0800000009000100040800);
      macros = [];
      statements = Statement.Build table_a ∷ [];
      result = 0 ∷ 65535 ∷ 1 ∷ 2 ∷ 0 ∷ 0 ∷ 0 ∷ 0 ∷ 0 ∷ 0 ∷ 0 ∷ 0 ∷ [];
      actions = rows (
          (5 ∷ 0 ∷ 1 ∷ [])
          ∷ (5 ∷ [])
          ∷ []);
      temporaries = filled 8 [];
      failures = [];
      checked = true;
    }
    -- Locals A to D unsized; B = A; C = D; D = inst_next; C = B; A = r4: C = D copies 8 bytes to 4. The premise fails
    -- at C and D.
    ∷ record {
      file = block 7723 (
          hex 34 0x00000c00020002000000000000000000000000000000090000000000010002000300
          ++ first_names ++ hex 8 0x0141014201430144 ++ spaces_and_registers
          ++ hex 20 0x020800ffff020900ffff020a00ffff020b00ffff
          ++ hex 35 0x0500080000090005000b00000a0005000100000b0005000900000a0005000600000800);
      macros = [];
      statements =
          Statement.Local local_a none
          ∷ Statement.Local local_b none
          ∷ Statement.Local local_c none
          ∷ Statement.Local local_d none
          ∷ Statement.Copy (ident local_a) (ident local_b)
          ∷ Statement.Copy (ident local_d) (ident local_c)
          ∷ Statement.Copy (ident inst_next) (ident local_d)
          ∷ Statement.Copy (ident local_b) (ident local_c)
          ∷ Statement.Copy (ident r4) (ident local_a)
          ∷ [];
      result = 0 ∷ 65535 ∷ 9 ∷ 5 ∷ 4 ∷ 0 ∷ 1 ∷ 0 ∷ 0 ∷ 0 ∷ 0 ∷ 0 ∷ [];
      actions = rows (
          (0 ∷ 57 ∷ 0 ∷ 1 ∷ tmp 1 4 ++ tmp 0 4)
          ∷ (0 ∷ 57 ∷ 0 ∷ 1 ∷ tmp 2 4 ++ tmp 3 8)
          ∷ (0 ∷ 57 ∷ 0 ∷ 1 ∷ tmp 3 8 ++ next 8)
          ∷ (0 ∷ 57 ∷ 0 ∷ 1 ∷ tmp 2 4 ++ tmp 1 4)
          ∷ (0 ∷ 57 ∷ 0 ∷ 1 ∷ tmp 0 4 ++ reg 0 4)
          ∷ []);
      temporaries = filled 8 (named local_a 4 ∷ named local_b 4 ∷ named local_c 4 ∷ named local_d 8 ∷ []);
      failures = 3 ∷ 2 ∷ [];
      checked = false;
    }
    -- Constant 0xABCD, bits [4,8]: 0xBC, size 1.
    ∷ record {
      file = block 5641 (
          hex 34 0x00000800020002000000000000000000000000000000010000000000010002000300
          ++ first_names ++ spaces_and_registers
          ++ hex 15 0x010401cdab00000000000004000800);
      macros = [];
      statements = Statement.Export (PcodeExpr.SliceBits (PcodeExpr.Integer 0xABCD) 4 8) ∷ [];
      result = 0 ∷ 65535 ∷ 1 ∷ 0 ∷ 0 ∷ 0 ∷ 0 ∷ 0 ∷ 1 ∷ con 188 1 ++ (0 ∷ []);
      actions = rows [];
      temporaries = filled 8 [];
      failures = [];
      checked = true;
    }
    -- Unsized constant [56,8]: accepted.
    ∷ record {
      file = block 5445 (
          hex 34 0x00000800020002000000000000000000000000000000010000000000010002000300
          ++ first_names ++ spaces_and_registers
          ++ hex 15 0x010401000000000000008038000800);
      macros = [];
      statements = Statement.Export (PcodeExpr.SliceBits (PcodeExpr.Integer 0x8000000000000000) 56 8) ∷ [];
      result = 0 ∷ 65535 ∷ 1 ∷ 0 ∷ 0 ∷ 0 ∷ 0 ∷ 0 ∷ 1 ∷ con 128 1 ++ (0 ∷ []);
      actions = rows [];
      temporaries = filled 8 [];
      failures = [];
      checked = true;
    }
    -- Unsized constant [57,8]: refused 36.
    ∷ record {
      file = block 5446 (
          hex 34 0x00000800020002000000000000000000000000000000010000000000010002000300
          ++ first_names ++ spaces_and_registers
          ++ hex 15 0x010401000000000000008039000800);
      macros = [];
      statements = Statement.Export (PcodeExpr.SliceBits (PcodeExpr.Integer 0x8000000000000000) 57 8) ∷ [];
      result = 36 ∷ 0 ∷ 0 ∷ 0 ∷ 0 ∷ 0 ∷ 0 ∷ 0 ∷ 0 ∷ 0 ∷ 0 ∷ 0 ∷ [];
      actions = rows [];
      temporaries = filled 8 [];
      failures = [];
      checked = false;
    }
    -- x = r4 > s4: IntLess s4, r4; x has size 1.
    ∷ record {
      file = block 5433 (
          hex 34 0x00000900020002000000000000000000000000000000010000000000010002000300
          ++ first_names ++ hex 2 0x0178 ++ spaces_and_registers
          ++ hex 12 0x050500060021000700000800);
      macros = [];
      statements =
          Statement.Copy (PcodeExpr.Op (ident r4) (PcodeOp.greater Operation.IntLess) (ident s4)) (ident local_x) ∷ [];
      result = 0 ∷ 65535 ∷ 1 ∷ 1 ∷ 1 ∷ 0 ∷ 0 ∷ 0 ∷ 0 ∷ 0 ∷ 0 ∷ 0 ∷ [];
      actions = rows ((0 ∷ 12 ∷ 0 ∷ 2 ∷ tmp 0 1 ++ reg 1 4 ++ reg 0 4) ∷ []);
      temporaries = filled 8 (named local_x 1 ∷ []);
      failures = [];
      checked = true;
    }
    -- r4[3,2] = 1: IntAnd, ZeroExtend, IntAnd, IntLeft, IntOr; two temporaries.
    ∷ record {
      file = block 5269 (
          hex 34 0x00000800020002000000000000000000000000000000010000000000010002000300
          ++ first_names ++ spaces_and_registers
          ++ hex 18 0x050101000000000000000400060003000200);
      macros = [];
      statements = Statement.Copy (PcodeExpr.Integer 1) (PcodeExpr.SliceBits (ident r4) 3 2) ∷ [];
      result = 0 ∷ 65535 ∷ 1 ∷ 5 ∷ 2 ∷ 0 ∷ 1 ∷ 0 ∷ 0 ∷ 0 ∷ 0 ∷ 0 ∷ [];
      actions = rows (
          (0 ∷ 24 ∷ 0 ∷ 2 ∷ tmp 0 4 ++ reg 0 4 ++ con 18446744073709551591 4)
          ∷ (0 ∷ 43 ∷ 0 ∷ 1 ∷ tmp 1 4 ++ con 1 8)
          ∷ (0 ∷ 24 ∷ 0 ∷ 2 ∷ tmp 1 4 ++ tmp 1 4 ++ con 3 4)
          ∷ (0 ∷ 7 ∷ 0 ∷ 2 ∷ tmp 1 4 ++ tmp 1 4 ++ con 3 8)
          ∷ (0 ∷ 26 ∷ 0 ∷ 2 ∷ reg 0 4 ++ tmp 0 4 ++ tmp 1 4)
          ∷ []);
      temporaries = filled 8 (named 65535 4 ∷ named 65535 4 ∷ []);
      failures = [];
      checked = true;
    }
    -- A label never placed: its jump is accepted.
    ∷ record {
      file = block 5375 (
          hex 34 0x00000900020002000000000000000000000000000000010000000000010002000300
          ++ first_names ++ hex 2 0x016c ++ spaces_and_registers
          ++ hex 5 0x0802080000);
      macros = [];
      statements = Statement.Branch (BranchDst.Label label_l) BranchHint.Jump ∷ [];
      result = 0 ∷ 65535 ∷ 1 ∷ 1 ∷ 0 ∷ 0 ∷ 0 ∷ 0 ∷ 0 ∷ 0 ∷ 0 ∷ 0 ∷ [];
      actions = rows ((0 ∷ 61 ∷ 0 ∷ 2 ∷ no_value ++ con 1 1 ++ con 0 8) ∷ []);
      temporaries = filled 8 [];
      failures = [];
      checked = true;
    }
    -- Placed twice: 27.
    ∷ record {
      file = block 5394 (
          hex 34 0x00000900020002000000000000000000000000000000020000000000010002000300
          ++ first_names ++ hex 2 0x016c ++ spaces_and_registers
          ++ hex 6 0x0a08000a0800);
      macros = [];
      statements = Statement.Label label_l ∷ Statement.Label label_l ∷ [];
      result = 27 ∷ 1 ∷ 0 ∷ 0 ∷ 0 ∷ 0 ∷ 0 ∷ 0 ∷ 0 ∷ 0 ∷ 0 ∷ 0 ∷ [];
      actions = rows [];
      temporaries = filled 8 [];
      failures = [];
      checked = false;
    }
    -- In a macro called twice: labels 0 and 1.
    ∷ record {
      file = block 5530 (
          hex 34 0x00000a00020002000000000000000100000000000000020000000000010002000300
          ++ first_names ++ hex 4 0x016c016d ++ spaces_and_registers
          ++ hex 16 0x09000001000a08000709000007090000);
      macros = record { name = macro_m; params = []; body = Statement.Label label_l ∷ [] } ∷ [];
      statements = Statement.Call macro_m no_args ∷ Statement.Call macro_m no_args ∷ [];
      result = 0 ∷ 65535 ∷ 4 ∷ 2 ∷ 0 ∷ 2 ∷ 0 ∷ 0 ∷ 0 ∷ 0 ∷ 0 ∷ 0 ∷ [];
      actions = rows (
          (0 ∷ 62 ∷ 0 ∷ 0 ∷ no_value)
          ∷ (0 ∷ 62 ∷ 1 ∷ 0 ∷ no_value)
          ∷ []);
      temporaries = filled 8 [];
      failures = [];
      checked = true;
    }
    -- Direct jump to an integer: 29.
    ∷ record {
      file = block 5261 (
          hex 34 0x00000800020002000000000000000000000000000000010000000000010002000300
          ++ first_names ++ spaces_and_registers
          ++ hex 14 0x0800010100000000000000040000);
      macros = [];
      statements = Statement.Branch (BranchDst.Direct (JumpLabel.Integer 1 4)) BranchHint.Jump ∷ [];
      result = 29 ∷ 0 ∷ 0 ∷ 0 ∷ 0 ∷ 0 ∷ 0 ∷ 0 ∷ 0 ∷ 0 ∷ 0 ∷ 0 ∷ [];
      actions = rows [];
      temporaries = filled 8 [];
      failures = [];
      checked = false;
    }
    ∷ []
