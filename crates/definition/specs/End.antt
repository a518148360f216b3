-- THE END of `resolve`: the passes, sizes fixed, subpieces made copies, the implicit Builds in front, the errors.
use Rattle.std.specs.Prelude.{ℕ, zero, suc, Bool, true, false, List, [], ◌∷◌, ◌++◌, length, eqb, leb}
use Rattle.std.proofs.Math.Option.{Option, none, some}
use Rattle.prelude.specs.Base.{when◌then◌else◌, and_then, any}
use Rattle.definition.specs.Refusals.{list_full, subpiece_size, errors_recorded}
use Rattle.definition.specs.Operations.{Operation, is_op}
use Rattle.definition.specs.Value.{Value, ActionKind, SemanticAction, operation_of, Temporary, Export}
use Rattle.definition.specs.Ast.{Section}
use Rattle.definition.specs.Sizes.{apply_size_inference, fix_size, fix_operands}
use Rattle.definition.specs.Walk.{State, stopped, Walk, ◌>>=◌, ◌>>◌, pure, require, expect, env, section, state, by_sizes, sliced}
use Rattle.definition.specs.Scope.{section_scope}
use Rattle.definition.specs.Statements.{ordinal_after, resolve_body}

-- 51 has the first error's ordinal and the count
unfoldable pub no_errors : List (Option ℕ) → Walk (Unit {0})
no_errors [] = pure tt
no_errors (ordinal ∷ rest) = λ e s. stopped errors_recorded ordinal (suc (length rest))

-- part of each input, from a byte on
unfoldable pub sliced_inputs : ℕ → ℕ → List Value → Walk (List Value)
sliced_inputs more size [] = pure []
sliced_inputs more size (v ∷ vs) = do
  part ← sliced more size v
  pure (part ∷ vs)

-- Subpiece becomes Copy: of the part of its input that has the output's size.
unfoldable pub subpiece_copy : SemanticAction → Walk SemanticAction
subpiece_copy a = do
  size ← expect subpiece_size (and_then a.output λ (v : Value). v.size)
  inputs ← sliced_inputs a.number size a.inputs
  pure (record { kind = ActionKind.Op Operation.Copy; number = 0; inputs = inputs; output = a.output })

unfoldable pub finish_op : Option Operation → SemanticAction → Walk SemanticAction
finish_op none a = pure a
finish_op (some operation) a = do
  b ← by_sizes λ sec. fix_operands sec a
  when is_op Operation.Subpiece operation then subpiece_copy b else pure b

unfoldable pub finish_actions : List SemanticAction → Walk (List SemanticAction)
finish_actions [] = pure []
finish_actions (a ∷ rest) = do
  b ← finish_op (operation_of a.kind) a
  bs ← finish_actions rest
  pure (b ∷ bs)

unfoldable pub finish_export : Option Export → Walk (Option Export)
finish_export none = pure none
finish_export (some x) = do
  v ← by_sizes λ sec. fix_size sec x.value
  pure (some (record { kind = x.kind; value = v; access_size = x.access_size }))

unfoldable pub is_build : ActionKind → Bool
is_build (ActionKind.Op operation) = false
is_build ActionKind.AddressOf = false
is_build ActionKind.LoadRegister = false
is_build ActionKind.StoreRegister = false
is_build ActionKind.DelaySlot = false
is_build ActionKind.Build = true

unfoldable pub builds : ℕ → SemanticAction → Bool
builds i a = when is_build a.kind then eqb i a.number else false

-- of n subtables from number i on, a Build of each that no action builds
unfoldable pub implicit_builds : List SemanticAction → ℕ → ℕ → List SemanticAction
implicit_builds actions i zero = []
implicit_builds actions i (suc n) =
    let rest = implicit_builds actions (suc i) n in
    when any (builds i) actions then rest
    else record { kind = ActionKind.Build; number = i; inputs = []; output = none } ∷ rest

-- A part resolved: how many statements that took, the final actions, the temporaries, how many labels were made, placed
-- or not, and the export.
pub record Semantics : Type 0 where
  pub statements : ℕ
  pub actions : List SemanticAction
  pub temporaries : List Temporary
  pub labels_made : ℕ
  pub export : Option Export

unfoldable pub finish : Walk Semantics
finish = do
  sec ← section
  s ← state
  sized ← by_sizes λ sec. apply_size_inference sec s.actions
  final ← finish_actions sized
  export ← finish_export s.export
  t ← state
  no_errors t.sizing.errors
  pure (record {
    statements = t.statements;
    actions = implicit_builds sized 0 (length sec.subtables) ++ final;
    temporaries = t.sizing.temporaries;
    labels_made = t.next_label;
    export = export;
  })

-- the walk over the section's statements, macro calls 16 deep at most
unfoldable pub resolve_statements : Walk (Unit {0})
resolve_statements = do
  e ← env
  require (leb (length e.section.subtables) e.action_room) list_full
  resolve_body 16 (ordinal_after e.section.macros) e.section.statements

unfoldable pub resolve_section : Walk Semantics
resolve_section = do
  resolve_statements
  finish

unfoldable pub at_start : Section → State
at_start sec = record {
  statements = 0;
  scope = section_scope sec;
  next_label = 0;
  sizing = record { begun = none; temporaries = []; errors = [] };
  actions = [];
  export = none;
}
