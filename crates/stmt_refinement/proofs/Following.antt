-- The step of a statement that enters no macro is one that follows the definition: the state that it ends with is kept.
use Prim.Native.Nat.{ℕ, zero, suc, ◌+◌}
use mathlib.Core.Path.{◌≡◌, ◌∙◌, ap}
use mathlib.Core.List.{List}
use mathlib.Core.Option.{Option}
use native.Mathlib.Omega.{arith}
use Rattle.prelude.specs.Base.{or_else}
use Rattle.definition.specs.Refusals.{refusal_number}
use Rattle.definition.specs.Ast.{Statement, Macro}
use Rattle.definition.specs.Walk.{ExprValue, State, Env, Outcome, done, stopped}
use Rattle.definition.specs.Statements as d
use Rattle.definition.specs.ActionList.{or_none}
use Rattle.definition_guarantee.specs.Tests as tests
use Rattle.definition_guarantee.specs.Limits.{StatementWithin, WithinLimits}
use Rattle.definition_guarantee.proofs.Kept.{Kept, ExprFits, Ends, Keeps, count, keep_refuse}
use Rattle.definition_guarantee.proofs.KeptLabels.{keep_macro}
use Rattle.definition_guarantee.proofs.KeptStatements.{keep_statement, Nothing, keep_body}
use Rattle.list_pushes.specs.declared.push.Env.{Env as WordEnv}
use Rattle.stmt_walk.specs.Outcomes.{Step}
use Rattle.stmt_walk.specs.Walks.{Walked, walked}
use Rattle.stmt_refinement.proofs.Steps.{Steps, Follows}
use Rattle.stmt_refinement.proofs.Bodies.{enter_of, Begun}
use Rattle.stmt_refinement.specs.Standing.{Beside}

module _ (e : Env) (limits : WithinLimits e.section) where
  enters_keep : (deep id : ℕ) (m : Macro) (xs : List ExprValue) (n : ℕ) → tests.Each StatementWithin m.body → tests.Each (ExprFits e n) xs → Keeps e n Nothing (enter_of deep id m xs)
  unfolding enter_of
  enters_keep zero id m xs n within fits = keep_refuse _
  enters_keep (suc deep) id m xs n within fits = keep_macro e (d.resolve_body deep) id m xs (λ o j. keep_body e limits deep o m.body within j) fits

  ends_kept : (st : State) (o : Outcome (Unit {0})) → Ends e st Nothing o → (u : State) → o ≡ done tt u → Kept e u
  ends_kept st (done a v) k u q = let z : v ≡ u = cc in rw (← z) k.1
  ends_kept st (stopped r i j) k u q = let z : ◌≡◌ {A = ℕ} 0 1 = cc in absurd (omega arith)

  pub statement_kept : (deep : ℕ) (x : Statement) → StatementWithin x → (st u : State) → Kept e st → d.resolve_statement (enter_of deep) x e st ≡ done tt u → Kept e u
  statement_kept deep x within st u k q = ends_kept st (d.resolve_statement (enter_of deep) x e st) ((keep_statement e limits (enter_of deep) (enters_keep deep) x within (count st)).keeps st (omega arith) k) u q

module _ (s t : List ℕ) (e : Env) (front tail rest : List ℕ) (spare : ℕ) (limits : WithinLimits e.section) (deep : ℕ) where
  pub steps_follow : (we : WordEnv) (p : List ℕ) (b : Beside) (st : State) (ordinal : ℕ) → Begun s t e front tail rest spare we p b st ordinal → (x : Statement) → StatementWithin x → (placing next : ℕ) (y : Walked)
      → Steps t e front tail rest we spare placing b st next y (d.resolve_statement (enter_of deep) x e st)
      → Follows t e front tail rest we spare b st next y (d.resolve_statement (enter_of deep) x e st)
  unfolding or_none or_else
  steps_follow we p b st ordinal h x within placing next y (Steps.goes u q c i j standing framed k l) =
      Follows.goes u q c i j standing (statement_kept e limits deep x within st u h.between.kept i) (k ∙ ap (λ (n : ℕ). n + placing) h.between.placed ∙ (omega (arith, l))) framed
  steps_follow we p b st ordinal h x within placing next y (Steps.stops r q a m i j) =
      Follows.stops r ordinal q a m (i ∙ ap (λ (o : Option ℕ). stopped r o 0) h.begun) (j ∙ ap (λ (o : Option ℕ). walked (Step.Stop (refusal_number r) (or_none o)) q a m) h.begun)
