-- What a slice gives, as the words have it: a value, or the number of a refusal.
use Rattle.std.specs.Prelude.{ℕ, Result, Ok, Err}
use Rattle.codes.specs.declared.refusal.Refusal.{Refusal}
use Rattle.codes.specs.Refusals.{number}
use Rattle.list_values.specs.declared.value.Value.{Value}

pub data Slice : Type 0 where
  Is : Value → Slice
  No : ℕ → Slice

abbrev pub to_slice : Result Value Refusal → Slice
to_slice (Ok v) = Slice.Is v
to_slice (Err refusal) = Slice.No (number refusal)
