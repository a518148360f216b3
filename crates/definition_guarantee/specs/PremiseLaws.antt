-- THE PREMISE: it cannot be left out; and it holds where no operation with a rule has an unsized temporary when the forward
-- pass begins, so where the walk over the statements has left none unsized.
use Rattle.std.specs.Prelude.{ℕ, ◌≡◌, Bool, false, not, List, [], ◌∷◌, ◌++◌}
use Rattle.std.proofs.Math.Option.{some}
use Rattle.std.proofs.Math.ListN.{get_elem?}
use Rattle.prelude.specs.Base.{or_else, and_then, is_some, filter}
use Rattle.definition.specs.Value.{SemanticAction, Temporary}
use Rattle.definition.specs.Ast.{Section}
use Rattle.definition.specs.SectionFile.{Parsed, read}
use Rattle.definition.specs.Sizes.{Sizing, backward_pass}
use Rattle.definition.specs.Walk.{State, Outcome, done, stopped}
use Rattle.definition.specs.End.{resolve_statements, at_start}
use Rattle.definition.specs.ActionList.{room_for, when_read, resolve}
use Rattle.definition.specs.Premise.{ruled, premise_failures}
use Rattle.definition.specs.Passing.{passes}

-- The section is accepted, the premise fails at C and D, and the list does not pass.
pub record PremiseNeeded (file : List ℕ) (lent_actions lent_temporaries : ℕ) : Type 0 where
  pub accepted : (resolve file lent_actions lent_temporaries).result.refusal ≡ 0
  pub failures : premise_failures file lent_actions lent_temporaries ≡ 3 ∷ 2 ∷ []
  pub refused : passes file lent_actions lent_temporaries ≡ false

-- What a description's writer can look at: the temporaries without a size after the walk over the statements; and those
-- among the operands of operations with a rule, when the forward pass begins. Where there are none, the premise holds.

-- the temporary is there and has no size
unfoldable pub is_unsized : List Temporary → ℕ → Bool
is_unsized ts i = or_else false (and_then (get_elem? ts i) λ (t : Temporary). some (not (is_some t.size)))

unfoldable pub ruled_in : List SemanticAction → List ℕ
ruled_in [] = []
ruled_in (a ∷ xs) = ruled a ++ ruled_in xs

unfoldable pub unsized_before_forward : Section → State → List ℕ
unsized_before_forward sec s =
    let back : List SemanticAction × Sizing = backward_pass sec s.actions s.sizing in
    filter (is_unsized back.1.temporaries) (ruled_in back.0)

unfoldable pub from_walk : (Section → State → List ℕ) → Section → Outcome (Unit {0}) → List ℕ
from_walk f sec (done x s) = f sec s
from_walk f sec (stopped r ordinal errors) = []

unfoldable pub from_section : (Section → State → List ℕ) → ℕ → ℕ → Parsed Section → List ℕ
from_section f lent_actions lent_temporaries = when_read
    (λ r. [])
    (λ sec. from_walk f sec (resolve_statements (room_for sec lent_actions lent_temporaries) (at_start sec)))

unfoldable pub unsized_operands : List ℕ → ℕ → ℕ → List ℕ
unsized_operands file lent_actions lent_temporaries =
    from_section unsized_before_forward lent_actions lent_temporaries (read file)
