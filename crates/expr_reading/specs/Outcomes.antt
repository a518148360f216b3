-- A value whose size was set, and the state then, as the words have them.
use Rattle.list_values.specs.declared.value.Value.{Value}
use Rattle.list_pushes.specs.declared.push.State.{State}

pub record Stated : Type 0 where
  pub v : Value
  pub st : State

abbrev pub to_stated : Value × State → Stated
to_stated x = record { v = x.0; st = x.1 }
