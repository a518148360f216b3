-- Rules that the starred sections do not tell apart, by two more sections.
use Prim.Native.Nat.{ℕ}
use mathlib.Core.Path.{◌≡◌, refl}
use mathlib.Core.Bool.{true, false}
use mathlib.Core.List.{List, [], ◌∷◌, ◌++◌, map}
use mathlib.Core.Option.{none}
use Rattle.definition.specs.Ast.{PcodeExpr, no_args, arg, Statement}
use Rattle.definition.specs.ActionList.{filled}
use Rattle.definition.specs.Starred.{WorkedSection, worked, hex, block, first_names, spaces_and_registers, r4, s4, local_x, ident, rows, tmp, reg, named}
use Rattle.definition.proofs.Openers.{starred_opens}

abbrev param_p : ℕ
param_p = 8

abbrev macro_m : ℕ
macro_m = 9

abbrev other_x : ℕ
other_x = 10

pub unstarred_sections : List WorkedSection
unstarred_sections =
    -- x = r4(0), x unsized: the subpiece's 50 comes before the 51 that x would give.
    record {
      file = block 5919 (
          hex 34 0x00000900020002000000000000000000000000000000020000000000010002000300
          ++ first_names ++ hex 2 0x0178 ++ spaces_and_registers
          ++ hex 22 0x020800ffff0508060001010000000000000000000800);
      macros = [];
      statements =
          Statement.Local local_x none
          ∷ Statement.Copy (PcodeExpr.Call r4 (arg (PcodeExpr.Integer 0) no_args)) (ident local_x)
          ∷ [];
      result = 50 ∷ 1 ∷ 0 ∷ 0 ∷ 0 ∷ 0 ∷ 0 ∷ 0 ∷ 0 ∷ 0 ∷ 0 ∷ 0 ∷ [];
      actions = rows [];
      temporaries = filled 8 [];
      failures = [];
      checked = false;
    }
    -- A macro with two parameters p, called with r4 and s4: the later counts.
    ∷ record {
      file = block 5677 (
          hex 34 0x00000b00020002000000000000000100000000000000010000000000010002000300
          ++ first_names ++ hex 6 0x0170016d0178 ++ spaces_and_registers
          ++ hex 26 0x09000208000800010005000800000a0007090002000600000700);
      macros = record { name = macro_m; params = param_p ∷ param_p ∷ []; body = Statement.Copy (ident param_p) (ident other_x) ∷ [] } ∷ [];
      statements = Statement.Call macro_m (arg (ident r4) (arg (ident s4) no_args)) ∷ [];
      result = 0 ∷ 65535 ∷ 2 ∷ 1 ∷ 1 ∷ 0 ∷ 0 ∷ 0 ∷ 0 ∷ 0 ∷ 0 ∷ 0 ∷ [];
      actions = rows ((0 ∷ 57 ∷ 0 ∷ 1 ∷ tmp 0 4 ++ reg 1 4) ∷ []);
      temporaries = filled 8 (named other_x 4 ∷ []);
      failures = [];
      checked = true;
    }
    ∷ []

pub unstarred_sections_lem : map (λ (x : WorkedSection). worked x.file) unstarred_sections ≡ unstarred_sections
unfolding starred_opens unstarred_sections
unstarred_sections_lem = refl
