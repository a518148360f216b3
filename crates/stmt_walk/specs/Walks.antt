-- An answer with the lists that a function was lent, and how it goes on with the walk. In all of these s is the stream, t the
-- section's table, p the scope's list, a the actions, m the temporaries.
use Rattle.std.specs.Prelude.{ℕ, List}
use Rattle.list_pushes.specs.declared.push.State.{State}
use Rattle.list_pushes.specs.Outcomes.{Read}
use Rattle.list_pushes.specs.Outcomes.{Pushed}
use Rattle.list_pushes.specs.Pushes.{ReadOut, read, PushedOut, pushed}
use Rattle.stmt_walk.specs.Outcomes.{Walk}
use Rattle.stmt_walk.specs.Outcomes.{Step}

-- an answer, the actions and the temporaries
pub data Stepped : Type 0 where
  stepped : Step → List ℕ → List ℕ → Stepped

-- and before these the scope's list
pub data Walked : Type 0 where
  walked : Step → List ℕ → List ℕ → List ℕ → Walked

unfoldable pub step_pushed : PushedOut → (Pushed → Step) → Stepped
step_pushed (pushed r a m) f = stepped (f r) a m

unfoldable pub step_read : ReadOut → (Read → Step) → Stepped
step_read (read r a m) f = stepped (f r) a m

-- where the scope's list stays
unfoldable pub beside_p : List ℕ → Stepped → Walked
beside_p p (stepped r a m) = walked r p a m

-- without the scope's list
unfoldable pub without_p : Walked → Stepped
without_p (walked r p a m) = stepped r a m

-- on from where a step ended
unfoldable pub on_step : Walked → (ℕ → Walk → List ℕ → List ℕ → List ℕ → Walked) → Walked
on_step (walked (Step.Next next w) p a m) f = f next w p a m
on_step (walked (Step.Stop refusal ordinal) p a m) f = walked (Step.Stop refusal ordinal) p a m

abbrev pub with_state : State → Walk → Walk
with_state st w = record { st = st; labels = w.labels; placed = w.placed; statements = w.statements; export = w.export }

-- a refusal, at the statement that has begun
abbrev pub stop : ℕ → Walk → Step
stop refusal w = Step.Stop refusal w.st.sizing.begun

unfoldable pub pushed_then : ℕ → Walk → Pushed → Step
pushed_then next w (Pushed.Done st) = Step.Next next (with_state st w)
pushed_then next w (Pushed.No n) = stop n w

unfoldable pub read_then : ℕ → Walk → Read → Step
read_then next w (Read.Value v st) = Step.Next next (with_state st w)
read_then next w (Read.No n) = stop n w
