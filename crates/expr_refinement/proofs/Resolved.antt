-- The main statement: an expression at a position, resolved by the words on the encoding of a state, gives the encoding of
-- what the definition resolves it to.
use Prim.Native.Nat.{ℕ, ◌≤◌}
use mathlib.Core.Path.{◌≡◌}
use mathlib.Core.List.{List}
use lib.ListN.{length, drop}
use Rattle.access.specs.Le.{le16}
use Rattle.definition.specs.Ast.{PcodeExpr}
use Rattle.definition.specs.SectionFile.{parsed, expr_within}
use Rattle.definition.specs.Sizes.{pointer_size}
use Rattle.definition.specs.Walk.{ExprValue, State, Env}
use Rattle.definition.specs.Expressions as d
use Rattle.list_pushes.specs.declared.push.Env.{Env as WordEnv}
use Rattle.file_refinement.specs.Holds.{Holds}
use Rattle.list_refinement.specs.Encoding.{actions_in, temporaries_in, enc_s, SizesHold, Lent}
use Rattle.list_refinement.proofs.Seen.{outcome}
use Rattle.expr_resolver.specs.Expressions.{resolve_expr}
use Rattle.expr_refinement.proofs.Answers.{seen_expr, Refines}
use Rattle.expr_refinement.proofs.Below.{Spare}
use Rattle.expr_refinement.proofs.Pushing.{level_below}
use Rattle.expr_refinement.proofs.Expressions.{resolve-expr}
use Rattle.expr_refinement.specs.Encoding.{enc_x, SoundX, Stood, Scoped, BitRangesFit}

module _ (s t : List ℕ) (e : Env) (p front tail rest : List ℕ) (we : WordEnv) (lent : Lent e front tail rest) (sizes : SizesHold s t e.section) (pointer_is : we.pointer ≡ pointer_size e.section)
    (holds : Holds s t e.section) (ranges : BitRangesFit e.section) (spare : ℕ) (room : Spare spare tail) (short : length s ≤ 65280)
    (deep : ℕ) (shallow : deep ≤ 32) (pos : ℕ) (x : PcodeExpr) (next : ℕ) (reads : expr_within (le16 s 2) deep (drop pos s) ≡ parsed x (drop next s)) (inside : next ≤ length s)
    (st : State) (stood : Stood e.section tail rest spare st) (scoped : Scoped t p we st) where
  -- with what holds of the state and the value that it ends with
  pub expression_refines : Refines e.section front tail rest spare st (λ (x : ExprValue). (enc_x x, next)) (SoundX e.section)
      (seen_expr (resolve_expr deep s t p we pos (actions_in front tail st.actions) (temporaries_in rest st.sizing.temporaries) (enc_s (length front) st))) (d.resolve_expr x e st)
  expression_refines = resolve-expr s t e p front tail rest we (level_below s t e front tail rest we lent sizes pointer_is) holds ranges spare room short deep shallow pos x next reads inside st stood scoped

  pub expression_is : seen_expr (resolve_expr deep s t p we pos (actions_in front tail st.actions) (temporaries_in rest st.sizing.temporaries) (enc_s (length front) st))
      ≡ outcome front tail rest (λ (x : ExprValue). (enc_x x, next)) (d.resolve_expr x e st)
  expression_is = expression_refines.same
