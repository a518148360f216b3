-- The expressions of a statement, and their values, from what statements are given.
use Prim.Native.Nat.{ℕ, ◌≤◌}
use mathlib.Core.Path.{◌≡◌}
use mathlib.Core.List.{List}
use native.Mathlib.Omega.{arith}
use lib.ListN.{length, drop}
use Rattle.access.specs.Le.{le16}
use Rattle.definition.specs.Value.{Value}
use Rattle.definition.specs.Ast.{PcodeExpr}
use Rattle.definition.specs.SectionFile.{parsed, expr_within}
use Rattle.definition.specs.Walk.{ExprValue, State, Env}
use Rattle.definition.specs.Expressions as d
use Rattle.list_pushes.specs.declared.push.Env.{Env as WordEnv}
use Rattle.list_refinement.specs.Encoding.{enc_v, Sound}
use Rattle.expr_resolver.specs.Expressions.{expr_value, resolve_expr}
use Rattle.expr_refinement.proofs.Answers.{acts, temps, word, seen_expr, seen_operand, Refines}
use Rattle.expr_refinement.proofs.Below.{Spare, Below}
use Rattle.expr_refinement.proofs.Pushing.{level_below}
use Rattle.expr_refinement.proofs.Expressions.{value_at_lem, resolve-expr}
use Rattle.expr_refinement.specs.Encoding.{enc_x, SoundX, Stood, Scoped}
use Rattle.stmt_refinement.specs.Standing.{Given}

module _ (s t : List ℕ) (e : Env) (front tail rest : List ℕ) (we : WordEnv) (given : Given s t e front tail rest we) where
  pub below : Below s t e front tail rest we
  below = level_below s t e front tail rest we given.lent given.sizes given.pointer

  -- an expression of a statement
  pub expression : (p : List ℕ) (spare : ℕ) → Spare spare tail → (pos : ℕ) (x : PcodeExpr) (next : ℕ) → expr_within (le16 s 2) 32 (drop pos s) ≡ parsed x (drop next s) → next ≤ length s
      → (st : State) → Stood e.section tail rest spare st → Scoped t p we st
      → Refines e.section front tail rest spare st (λ (x : ExprValue). (enc_x x, next)) (SoundX e.section)
      (seen_expr (resolve_expr 32 s t p we pos (acts e.section front tail rest st) (temps e.section front tail rest st) (word e.section front tail rest st))) (d.resolve_expr x e st)
  expression p spare room pos x next h i st f c = resolve-expr s t e p front tail rest we below given.holds given.ranges spare room given.short 32 (omega arith) pos x next h i st f c

  -- and its value
  pub operand_of_lem : (p : List ℕ) (spare : ℕ) → Spare spare tail → (pos : ℕ) (x : PcodeExpr) (next : ℕ) → expr_within (le16 s 2) 32 (drop pos s) ≡ parsed x (drop next s) → next ≤ length s
      → (st : State) → Stood e.section tail rest spare st → Scoped t p we st
      → Refines e.section front tail rest spare st (λ (v : Value). (enc_v v, next)) (Sound e.section)
      (seen_operand (expr_value (resolve_expr 32 s t p we) s t we pos (acts e.section front tail rest st) (temps e.section front tail rest st) (word e.section front tail rest st))) (d.value_of (d.resolve_expr x) e st)
  operand_of_lem p spare room pos x next h i st f c = value_at_lem s t e p front tail rest we below given.holds given.ranges spare room given.short 32 (resolve-expr s t e p front tail rest we below given.holds given.ranges spare room given.short 32 (omega arith)) pos x next h i st f c
