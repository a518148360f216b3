-- The text that an operation's number has is the name of the operation.
use mathlib.Core.Path.{◌≡◌, refl}
use Rattle.definition.specs.Operations.{Operation, operation_number}
use Rattle.definition.specs.Spellings.{bytes_of}
use Rattle.definition.proofs.EveryOperation.{alike}
use Rattle.definition.proofs.Openers.{operations_opens}
use Rattle.listing_names.specs.Words.{first, rest, word}
use Rattle.listing_names.specs.Operations.{operation_name, operation_names, operation_text}

-- a number's text is the name of its operation
pub text_is_name : (op : Operation) → operation_text (operation_number op) ≡ bytes_of (operation_name op)
unfolding operation_text operation_names operation_name operations_opens bytes_of word rest first
text_is_name = alike (λ op. operation_text (operation_number op)) (λ op. bytes_of (operation_name op)) refl
