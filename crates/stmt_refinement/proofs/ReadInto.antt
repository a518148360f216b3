-- What an expression means is read into a target, as the definition reads it.
use Prim.Native.Nat.{ℕ}
use mathlib.Core.Bool.{true}
use mathlib.Core.List.{List}
use mathlib.Core.Option.{some}
use Rattle.prelude.specs.Base.{is_some}
use Rattle.definition.specs.Value.{Value}
use Rattle.definition.specs.Walk.{ExprValue, State, Env}
use Rattle.definition.specs.Expressions as expressions
use Rattle.definition.specs.Statements as d
use Rattle.list_pushes.specs.declared.push.Env.{Env as WordEnv}
use Rattle.list_refinement.specs.Encoding.{enc_v, Sound}
use Rattle.list_refinement.proofs.Seen.{seen_read}
use Rattle.expr_reading.specs.Reading.{read_value}
use Rattle.stmt_walk.specs.Outcomes.{Walk}
use Rattle.stmt_walk.specs.Walks.{step_read, read_then}
use Rattle.expr_refinement.proofs.Answers.{acts, temps, word}
use Rattle.expr_refinement.proofs.Below.{Spare}
use Rattle.expr_refinement.proofs.Reading.{to_of, read_value_lem}
use Rattle.stmt_refinement.proofs.Views.{begun_in, read_seen, Goes, step_read_lem}
use Rattle.stmt_refinement.proofs.Given.{below}
use Rattle.expr_refinement.specs.Encoding.{enc_x, SoundX, count, Stood}
use Rattle.stmt_refinement.specs.Standing.{beside, Given}

module _ (s t : List ℕ) (e : Env) (front tail rest : List ℕ) (we : WordEnv) (given : Given s t e front tail rest we) (spare : ℕ) (room : Spare spare tail) (w : Walk) (next : ℕ) where
  -- what an expression means, read into a target
  pub read_to_lem : (st : State) → Stood e.section tail rest spare st → (x : ExprValue) (to : Value) → SoundX e.section (count st) x → Sound e.section (count st) to
      → Goes e.section front tail rest spare st next (beside w) (begun_in w)
      (step_read (read_value s t (acts e.section front tail rest st) (temps e.section front tail rest st) we (enc_x x) true (enc_v to) (word e.section front tail rest st)) (read_then next w)) (d.read_to x to e st)
  unfolding d.read_to is_some to_of
  read_to_lem st f x to h g =
      step_read_lem e.section front tail rest spare e st enc_v (Sound e.section) (seen_read (read_value s t (acts e.section front tail rest st) (temps e.section front tail rest st) we (enc_x x) true (enc_v to) (word e.section front tail rest st))) _ (expressions.read_value x (some to) e st) next (beside w) (begun_in w)
      (read_value_lem s t e front tail rest we (below s t e front tail rest we given) spare room st f x (some to) h g) (read_seen _ next w)
