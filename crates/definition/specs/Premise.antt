-- THE PREMISE of demand 3. It fails exactly where the forward pass, at some action, sizes an unsized temporary that an
-- operation with a rule, nearer the list's start, has as an operand at any offset.
use Rattle.std.specs.Prelude.{ℕ, Bool, true, ◌&&◌, not, List, [], ◌∷◌, ◌++◌, eqb}
use Rattle.std.proofs.Math.ListN.{get_elem?}
use Rattle.prelude.specs.Base.{when◌then◌else◌, and_then, is_some, any, filter, is_empty}
use Rattle.definition.specs.Value.{Kind, Value, is_kind, SemanticAction, operation_of, Temporary, operands}
use Rattle.definition.specs.Ast.{Section}
use Rattle.definition.specs.SectionFile.{Parsed, read}
use Rattle.definition.specs.Sizes.{Sizing, Step, steps_of, update_operand_sizes, backward_pass}
use Rattle.definition.specs.Walk.{Outcome, done, stopped, Walk, ◌>>=◌, ◌>>◌, pure, section, state, by_sizes}
use Rattle.definition.specs.End.{resolve_statements, at_start}
use Rattle.definition.specs.ActionList.{room_for, when_read}

unfoldable pub temporaries_among : List Value → List ℕ
temporaries_among [] = []
temporaries_among (v ∷ vs) = when is_kind Kind.PcodeTmp v then v.number ∷ temporaries_among vs else temporaries_among vs

unfoldable pub under_rule : List Step → SemanticAction → List ℕ
under_rule [] a = []
under_rule (x ∷ xs) a = temporaries_among (operands a.output a.inputs)

-- the temporaries that an operation with a rule has as operands
unfoldable pub ruled : SemanticAction → List ℕ
ruled a = under_rule (steps_of (operation_of a.kind)) a

unfoldable pub is_sized_in : Sizing → ℕ → Bool
is_sized_in s i = is_some (and_then (get_elem? s.temporaries i) λ (t : Temporary). t.size)

-- those of the first list that the second lacks, each once, in front of the second
unfoldable pub union : List ℕ → List ℕ → List ℕ
union [] ns = ns
union (m ∷ ms) ns =
    let rest = union ms ns in
    when any (eqb m) rest then rest else m ∷ rest

-- The forward pass: the temporaries that it sizes too late, each once. Before stand those of the operations nearer the
-- list's start.
unfoldable pub sized_late : Section → List ℕ → List SemanticAction → Sizing → List ℕ
sized_late sec before [] s = []
sized_late sec before (a ∷ rest) s =
    let t : Sizing = (update_operand_sizes sec true a s).1 in
    union (filter (λ i. not (is_sized_in s i) && is_sized_in t i) before) (sized_late sec (ruled a ++ before) rest t)

unfoldable pub sized_late_walk : Walk (List ℕ)
sized_late_walk = do
  resolve_statements
  sec ← section
  s ← state
  back ← by_sizes λ sec. backward_pass sec s.actions
  t ← state
  pure (sized_late sec [] back t.sizing)

unfoldable pub walked : Outcome (List ℕ) → List ℕ
walked (done late s) = late
walked (stopped r ordinal errors) = []

unfoldable pub late_in : ℕ → ℕ → Parsed Section → List ℕ
late_in lent_actions lent_temporaries = when_read
    (λ r. [])
    (λ sec. walked (sized_late_walk (room_for sec lent_actions lent_temporaries) (at_start sec)))

-- where the premise fails: at these temporaries
unfoldable pub premise_failures : List ℕ → ℕ → ℕ → List ℕ
premise_failures file lent_actions lent_temporaries = late_in lent_actions lent_temporaries (read file)

unfoldable pub premise : List ℕ → ℕ → ℕ → Bool
premise file lent_actions lent_temporaries = is_empty (premise_failures file lent_actions lent_temporaries)
