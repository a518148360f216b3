use mathlib.Core.Path.{subst, sym}
use Prim.Native.Nat.{ℕ, ◌≤◌}
use mathlib.Core.List.{List}
use lib.ListN.{length}
use Rattle.definition.specs.Spellings.{bytes_of}
use Rattle.listing_names.specs.Operations.{operation_text, operation_names}
use Rattle.listing_names.proofs.Widths.{text_fits}
use Rattle.listing_names.proofs.operations.operation.Goals as goal

pub returns-clause-text : goal.returns-clause-text
unfolding operation_text operation_names bytes_of
returns-clause-text c = c.word.ensures

pub returns-clause-within : goal.returns-clause-within
unfolding operation_text operation_names bytes_of
returns-clause-within c = subst (λ (text : List ℕ). length text ≤ 32) (sym c.word.ensures) (text_fits c.args.op)
