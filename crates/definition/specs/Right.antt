-- THE CHECKER'S CONDITIONS as plain propositions, in document 01's order.
use Rattle.std.specs.Prelude.{ℕ, ◌*◌, ◌-◌, ◌≤◌, ◌<◌, ◌≡◌, ◌≢◌, List, ◌++◌, length, replicate}
use Rattle.std.proofs.Math.Option.{none, some}
use Rattle.std.proofs.Math.ListN.{get_elem?}
use Rattle.prelude.specs.Base.{is_some}
use Rattle.definition.specs.Operations.{Operation}
use Rattle.definition.specs.Value.{Kind, Value, ActionKind, SemanticAction}
use Rattle.definition.specs.Sizes.{Operand, FixedSize, equal, exactly, rule_of, at, fixed_size}
use Rattle.definition.specs.ActionList.{list_words}
use Rattle.definition.specs.Checker.{Shape, shape_of}

-- an element of a list
abbrev pub Among : {A : Type 0} → A → List A → Type 0
Among x xs = (i : ℕ) × (get_elem? xs i ≡ some x)

-- an input or the output
pub data IsOperand (a : SemanticAction) (v : Value) : Type 0 where
  input : Among v a.inputs → IsOperand a v
  output : a.output ≡ some v → IsOperand a v

-- InstStart and InstNext are numbered 0; subtables and temporaries are below their counts
unfoldable pub NumberWithin : ℕ → ℕ → Kind → ℕ → Type 0
NumberWithin temporaries subtables Kind.InstStart n = n ≡ 0
NumberWithin temporaries subtables Kind.InstNext n = n ≡ 0
NumberWithin temporaries subtables Kind.Register n = Unit {0}
NumberWithin temporaries subtables Kind.Field n = Unit {0}
NumberWithin temporaries subtables Kind.Subtable n = n < subtables
NumberWithin temporaries subtables Kind.SubtableRef n = n < subtables
NumberWithin temporaries subtables Kind.PcodeTmp n = n < temporaries
NumberWithin temporaries subtables Kind.Constant n = Unit {0}

pub record ValueWithin (temporaries subtables : ℕ) (v : Value) : Type 0 where
  pub number : NumberWithin temporaries subtables v.kind v.number
  pub offset : v.offset ≤ 65535
  pub size : (z : ℕ) → v.size ≡ some z → z < 65535

-- one of the input and output counts that the action's kind can have, and a number below its bound
pub record ShapeWithin (temporaries subtables : ℕ) (a : SemanticAction) : Type 0 where
  pub shape : Shape
  pub is : shape_of temporaries subtables a.kind ≡ some shape
  pub counts : Among (length a.inputs, is_some a.output) shape.counts
  pub number : a.number < shape.below

-- one action, whatever its place
pub record ActionRight (temporaries subtables pointer_size : ℕ) (a : SemanticAction) : Type 0 where
  -- layout
  pub shape : ShapeWithin temporaries subtables a
  pub operands : (v : Value) → IsOperand a v → ValueWithin temporaries subtables v
  pub bases : (v : Value) → a.kind ≡ ActionKind.AddressOf → Among v a.inputs → (v.size ≡ none) × (v.offset ≡ 0)
  -- sizes: every operand of an operation is sized and obeys the operation's rule
  pub sizes : (op : Operation) (v : Value) → a.kind ≡ ActionKind.Op op → IsOperand a v → (z : ℕ) × (v.size ≡ some z)
  pub equal_sizes : (op : Operation) (ps : List Operand) (p q : Operand) (v u : Value) → a.kind ≡ ActionKind.Op op
      → Among (equal ps) (rule_of op)
      → Among p ps → Among q ps → at p a ≡ some v → at q a ≡ some u → v.size ≡ u.size
  pub fixed_sizes : (op : Operation) (p : Operand) (z : FixedSize) (v : Value) → a.kind ≡ ActionKind.Op op
      → Among (exactly p z) (rule_of op)
      → at p a ≡ some v → v.size ≡ some (fixed_size pointer_size z)
  -- no subpiece is left
  pub no_subpiece : a.kind ≢ ActionKind.Op Operation.Subpiece

-- the words, the action and temporary counts, the subtable count and the pointer size
pub record Right (ws : List ℕ) (n temporaries subtables pointer_size : ℕ) : Type 0 where
  -- there are n actions, which fit; the words are theirs, and zero behind
  pub actions : List SemanticAction
  pub count : length actions ≡ n
  pub fits : 24 * n ≤ length ws
  pub words : ws ≡ list_words actions ++ replicate (length ws - 24 * n) 0
  pub each : (i : ℕ) (a : SemanticAction) → get_elem? actions i ≡ some a
      → ActionRight temporaries subtables pointer_size a
  -- two actions that place the same label are one action
  pub labels_once : (i j : ℕ) (a b : SemanticAction) → get_elem? actions i ≡ some a → get_elem? actions j ≡ some b
      → a.kind ≡ ActionKind.Op Operation.PcodeLabel → b.kind ≡ ActionKind.Op Operation.PcodeLabel
      → a.number ≡ b.number → i ≡ j
  -- every subtable is built
  pub all_built : (m : ℕ) → m < subtables
      → (a : SemanticAction) × Among a actions × (a.kind ≡ ActionKind.Build) × (a.number ≡ m)
