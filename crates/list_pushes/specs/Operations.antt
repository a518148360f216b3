-- Operations with the inputs that most have.
use Rattle.std.specs.Prelude.{ℕ}
use Rattle.list_values.specs.declared.value.Value.{Value}
use Rattle.list_values.specs.Values.{absent}
use Rattle.list_pushes.specs.declared.push.Operation.{Operation}

abbrev pub nullary : ℕ → Operation
nullary code = record { code = code; number = 0; count = 0; first = absent; second = absent }

abbrev pub unary : ℕ → Value → Operation
unary code input = record { code = code; number = 0; count = 1; first = input; second = absent }

abbrev pub binary : ℕ → Value → Value → Operation
binary code first second = record { code = code; number = 0; count = 2; first = first; second = second }
