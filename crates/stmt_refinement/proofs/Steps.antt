-- What it means that the words follow the definition.
use Prim.Native.Nat.{ℕ, ◌+◌}
use mathlib.Core.Path.{◌≡◌}
use mathlib.Core.List.{List}
use mathlib.Core.Option.{some}
use Rattle.definition.specs.Refusals.{Refusal, refusal_number}
use Rattle.definition.specs.Walk.{State, Env, Outcome, done, stopped}
use Rattle.definition.specs.ActionList.{or_none, labels_placed}
use Rattle.definition_guarantee.proofs.Kept.{Kept}
use Rattle.list_pushes.specs.declared.push.Env.{Env as WordEnv}
use Rattle.stmt_walk.specs.Outcomes.{Step}
use Rattle.stmt_walk.specs.Walks.{Walked, walked}
use Rattle.expr_refinement.proofs.Answers.{acts, temps, word}
use Rattle.stmt_refinement.specs.Standing.{Beside, walk_of, Standing, Framed}

module _ (t : List ℕ) (e : Env) (front tail rest : List ℕ) (we : WordEnv) (spare : ℕ) where
  -- One statement that enters no macro, and that places so many labels: the words go on behind it, or they refuse at the
  -- statement that has begun, as the definition does.
  pub data Steps (placing : ℕ) (b : Beside) (from : State) (next : ℕ) (x : Walked) (o : Outcome (Unit {0})) : Type 0 where
    goes : (u : State) (q : List ℕ) (c : Beside) → o ≡ done tt u → x ≡ walked (Step.Next next (walk_of c (word e.section front tail rest u))) q (acts e.section front tail rest u) (temps e.section front tail rest u)
        → Standing t e tail rest we spare q c u → Framed b from c u → c.placed ≡ b.placed + placing → labels_placed u.actions ≡ labels_placed from.actions + placing → Steps placing b from next x o
    -- the definition's refusal is at that statement too: Halts of the answers below
    stops : (r : Refusal) (q a m : List ℕ) → o ≡ stopped r from.sizing.begun 0 → x ≡ walked (Step.Stop (refusal_number r) (or_none from.sizing.begun)) q a m → Steps placing b from next x o

  -- Statements of any kind: as above, and a refusal has its ordinal and no errors.
  pub data Follows (b : Beside) (from : State) (next : ℕ) (x : Walked) (o : Outcome (Unit {0})) : Type 0 where
    goes : (u : State) (q : List ℕ) (c : Beside) → o ≡ done tt u → x ≡ walked (Step.Next next (walk_of c (word e.section front tail rest u))) q (acts e.section front tail rest u) (temps e.section front tail rest u)
        → Standing t e tail rest we spare q c u → Kept e u → c.placed ≡ labels_placed u.actions → Framed b from c u → Follows b from next x o
    stops : (r : Refusal) (ordinal : ℕ) (q a m : List ℕ) → o ≡ stopped r (some ordinal) 0 → x ≡ walked (Step.Stop (refusal_number r) ordinal) q a m → Follows b from next x o
