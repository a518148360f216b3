-- THE WALK over statements: its state, and how steps follow each other until one refuses. Then temporaries and pushes.
use Rattle.std.specs.Prelude.{ℕ, suc, ◌+◌, Bool, true, false, List, [], ◌∷◌, ◌++◌, length, leb}
use Rattle.std.proofs.Math.Option.{Option, none, some}
use Rattle.prelude.specs.Base.{or_else}
use Rattle.definition.specs.Refusals.{Refusal, list_full, too_many_temporaries, offset_too_far}
use Rattle.definition.specs.Operations.{Operation}
use Rattle.definition.specs.Value.{Kind, Value, local, slice_bytes, ActionKind, SemanticAction, Export}
use Rattle.definition.specs.Ast.{Section}
use Rattle.definition.specs.Sizes.{Sizing, with_temporaries, size_of, update_operand_sizes}

-- `ExprValue`: what an expression means before it is read. Apply stands for NullaryOp, UnaryOp and BinOp: an operation,
-- its number and its inputs.
pub data ExprValue : Type 0 where
  Local : Value → ExprValue
  Unbound : Value → ExprValue
  Const : ℕ → Option ℕ → ExprValue
  Apply : Operation → ℕ → List Value → ExprValue
  RamRef : Value → ℕ → ExprValue
  RegisterRef : Value → ℕ → ExprValue
  AddressOf : Value → Option ℕ → ExprValue
  BitRange : Value → ℕ → ℕ → ExprValue

pub record Label : Type 0 where
  pub id : ℕ
  pub defined : Bool

-- What names mean in the section, or in one macro call. Entries stand in the order of their declaration, but of
-- parameters the last is in front; of two entries for a name the one in front counts.
pub record Scope : Type 0 where
  pub params : List (ℕ × ExprValue)
  pub mapping : List (ℕ × Value)
  pub labels : List (ℕ × Label)

-- Labels have been given the numbers below next_label.
pub record State : Type 0 where
  pub statements : ℕ
  pub scope : Scope
  pub next_label : ℕ
  pub sizing : Sizing
  pub actions : List SemanticAction
  pub export : Option Export

-- The section, and the room for actions and temporaries.
pub record Env : Type 0 where
  pub section : Section
  pub action_room : ℕ
  pub temporary_room : ℕ

-- A refusal has its ordinal and the count of recorded errors.
pub data Outcome (A : Type 0) : Type 0 where
  done : A → State → Outcome A
  stopped : Refusal → Option ℕ → ℕ → Outcome A

abbrev pub Walk : Type 0 → Type 0
Walk A = Env → State → Outcome A

-- on with what is done
unfoldable pub on : {A B : Type 0} → Env → Outcome A → (A → Walk B) → Outcome B
on e (done a s) f = f a e s
on e (stopped r ordinal errors) f = stopped r ordinal errors

infixl 2 ◌>>=◌
abbrev pub ◌>>=◌ : {A B : Type 0} → Walk A → (A → Walk B) → Walk B
◌>>=◌ m f e s = on e (m e s) f

infixl 2 ◌>>◌
abbrev pub ◌>>◌ : {B : Type 0} → Walk (Unit {0}) → Walk B → Walk B
◌>>◌ m r e s = on e (m e s) (λ _. r)

abbrev pub pure : {A : Type 0} → A → Walk A
pure a e s = done a s

-- a refusal has the ordinal of the statement begun last
abbrev pub refuse : {A : Type 0} → Refusal → Walk A
refuse r e s = stopped r s.sizing.begun 0

unfoldable pub require : Bool → Refusal → Walk (Unit {0})
require true r = pure tt
require false r = refuse r

-- what an option holds, or a refusal
unfoldable pub expect : {A : Type 0} → Refusal → Option A → Walk A
expect r (some a) = pure a
expect r none = refuse r

abbrev pub env : Walk Env
env e s = done e s

abbrev pub section : Walk Section
section e s = done e.section s

abbrev pub state : Walk State
state e s = done s s

abbrev pub change : (State → State) → Walk (Unit {0})
change f e s = done tt (f s)

-- a state by its parts, in their order
abbrev pub state_of : ℕ → Scope → ℕ → Sizing → List SemanticAction → Option Export → State
state_of statements scope next_label sizing actions export = record {
  statements = statements;
  scope = scope;
  next_label = next_label;
  sizing = sizing;
  actions = actions;
  export = export;
}

abbrev pub with_scope : Scope → State → State
with_scope x s = state_of s.statements x s.next_label s.sizing s.actions s.export

abbrev pub with_label : Scope → State → State
with_label x s = state_of s.statements x (suc s.next_label) s.sizing s.actions s.export

abbrev pub with_sizing : Sizing → State → State
with_sizing x s = state_of s.statements s.scope s.next_label x s.actions s.export

abbrev pub with_action : SemanticAction → State → State
with_action a s = state_of s.statements s.scope s.next_label s.sizing (s.actions ++ (a ∷ [])) s.export

abbrev pub with_export : Export → State → State
with_export x s = state_of s.statements s.scope s.next_label s.sizing s.actions (some x)

-- Sizes within the walk.

-- a change of sizes as a step of the walk
abbrev pub by_sizes : {A : Type 0} → (Section → Sizing → A × Sizing) → Walk A
by_sizes f e s = let (a, x) = f e.section s.sizing in done a (with_sizing x s)

abbrev pub known_size : Value → Walk (Option ℕ)
known_size v e s = done (size_of e.section s.sizing.temporaries v) s

-- the slice, unless its offset passes 65,535
unfoldable pub sliced : ℕ → ℕ → Value → Walk Value
sliced more size v = do
  require (leb (v.offset + more) 65535) offset_too_far
  pure (slice_bytes more size v)

-- Temporaries: with this one, their room at most.

unfoldable pub add_tmp : Option ℕ → Option ℕ → Walk Value
add_tmp name size = do
  e ← env
  s ← state
  let ts = s.sizing.temporaries
  require (leb (length ts + 1) e.temporary_room) too_many_temporaries
  change (with_sizing (with_temporaries (ts ++ (record { name = name; size = size } ∷ [])) s.sizing))
  pure (local Kind.PcodeTmp (length ts))

-- the output given, else a fresh temporary of that size
unfoldable pub output_or : Option ℕ → Option Value → Walk Value
output_or size (some v) = pure v
output_or size none = add_tmp none size

-- Pushes: with this one and all subtables, the list's room at most.

unfoldable pub push : SemanticAction → Walk (Unit {0})
push a = do
  e ← env
  s ← state
  require (leb (length s.actions + 1 + length e.section.subtables) e.action_room) list_full
  change (with_action a)

unfoldable pub push_op : Operation → ℕ → List Value → Option Value → Walk SemanticAction
push_op op n inputs output = do
  let a : SemanticAction = record { kind = ActionKind.Op op; number = n; inputs = inputs; output = output }
  a ← by_sizes λ sec. update_operand_sizes sec false a
  push a
  pure a

-- an operation with an output, a fresh temporary where none is given
unfoldable pub op : Operation → ℕ → List Value → Option Value → Walk Value
op operation n inputs output = do
  to ← output_or none output
  a ← push_op operation n inputs (some to)
  pure (or_else to a.output)

unfoldable pub op_no_output : Operation → ℕ → List Value → Walk (Unit {0})
op_no_output operation n inputs = do
  _ ← push_op operation n inputs none
  pure tt
