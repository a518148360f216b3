-- What a read or a push gives, as the words have it: a value and the state, or the number of a refusal.
use Rattle.std.specs.Prelude.{ℕ, Result, Ok, Err}
use Rattle.codes.specs.declared.refusal.Refusal.{Refusal}
use Rattle.codes.specs.Refusals.{number}
use Rattle.list_values.specs.declared.value.Value as values
use Rattle.list_pushes.specs.declared.push.State.{State}

pub data Read : Type 0 where
  Value : values.Value → State → Read
  No : ℕ → Read

pub data Pushed : Type 0 where
  Done : State → Pushed
  No : ℕ → Pushed

abbrev pub to_read : Result (values.Value × State) Refusal → Read
to_read (Ok x) = Read.Value x.0 x.1
to_read (Err refusal) = Read.No (number refusal)

abbrev pub to_pushed : Result State Refusal → Pushed
to_pushed (Ok st) = Pushed.Done st
to_pushed (Err refusal) = Pushed.No (number refusal)
