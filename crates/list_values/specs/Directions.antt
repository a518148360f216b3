-- Whether a pass goes forward, which is also whether it falls back.
use Rattle.std.specs.Prelude.{Bool, true, false}
use Rattle.list_values.specs.declared.sizes.Direction.{Direction}

abbrev pub forwards : Direction → Bool
forwards Direction.Backward = false
forwards Direction.Forward = true
