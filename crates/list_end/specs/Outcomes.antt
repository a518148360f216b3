-- What fixing a size and finishing actions give, as the words have it: a value and the sizing; the number of a refusal, 0 where
-- there is none, and the sizing.
use Rattle.std.specs.Prelude.{ℕ, Result, Ok, Err}
use Rattle.codes.specs.Refusals.{number}
use Rattle.list_values.specs.declared.value.Value.{Value}
use Rattle.list_values.specs.declared.sizes.Sizing.{Sizing}
use Rattle.list_end.specs.declared.end.Unfinished.{Unfinished}

pub record Fixed : Type 0 where
  pub v : Value
  pub z : Sizing

abbrev pub to_fixed : Value × Sizing → Fixed
to_fixed x = record { v = x.0; z = x.1 }

pub record Finished : Type 0 where
  pub refusal : ℕ
  pub z : Sizing

abbrev pub to_finished : Result Sizing Unfinished → Finished
to_finished (Ok sizing) = record { refusal = 0; z = sizing }
to_finished (Err e) = record { refusal = number e.refusal; z = e.sizing }
