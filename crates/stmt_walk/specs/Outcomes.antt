-- The state of the walk and what a step of it gives, as the words have them: the export by a number, 0 where there is none,
-- and a refusal by its number with the ordinal of the statement that has begun.
use Rattle.std.specs.Prelude.{ℕ, Result, Ok, Err}
use Rattle.codes.specs.declared.refusal.Refusal.{Refusal}
use Rattle.codes.specs.Refusals.{number}
use Rattle.list_values.specs.declared.value.Value as values
use Rattle.list_pushes.specs.declared.push.State.{State}
use Rattle.stmt_walk.specs.declared.walk.Export as exports
use Rattle.stmt_walk.specs.declared.walk.Walk as walks
use Rattle.stmt_walk.specs.declared.walk.Stopped as stopped

pub record Export : Type 0 where
  pub kind : ℕ
  pub v : values.Value
  pub size : ℕ

pub record Walk : Type 0 where
  pub st : State
  pub labels : ℕ
  pub placed : ℕ
  pub statements : ℕ
  pub export : Export

pub data Step : Type 0 where
  Next : ℕ → Walk → Step
  Stop : ℕ → ℕ → Step

abbrev pub to_export : exports.Export → Export
to_export x = record { kind = x.kind; v = x.to.pointer; size = x.to.size }

abbrev pub to_walk : walks.Walk → Walk
to_walk w = record { st = w.st; labels = w.labels; placed = w.placed; statements = w.statements; export = to_export w.export }

-- a step of a walk, which a refusal ends at the statement that has begun
abbrev pub to_step : walks.Walk → Result (ℕ × walks.Walk) Refusal → Step
to_step w (Ok x) = Step.Next x.0 (to_walk x.1)
to_step w (Err refusal) = Step.Stop (number refusal) w.st.sizing.begun

-- steps of which one may have ended in another statement
abbrev pub to_steps : Result (ℕ × walks.Walk) stopped.Stopped → Step
to_steps (Ok x) = Step.Next x.0 (to_walk x.1)
to_steps (Err s) = Step.Stop s.refusal s.ordinal
