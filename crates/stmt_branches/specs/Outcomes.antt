-- What a search for a label gives, as the words have it: its number, or the number of a refusal.
use Rattle.std.specs.Prelude.{ℕ, Result, Ok, Err}
use Rattle.codes.specs.declared.refusal.Refusal.{Refusal}
use Rattle.codes.specs.Refusals.{number}

pub data Label : Type 0 where
  Is : ℕ → Label
  No : ℕ → Label

abbrev pub to_label : Result ℕ Refusal → Label
to_label (Ok id) = Label.Is id
to_label (Err refusal) = Label.No (number refusal)
