-- THE CHECKER of an action list. Its words are read back as actions; the list is right if these are written as just
-- those words, and each action and the whole list meet the conditions below.
use Rattle.std.specs.Prelude.{ℕ, zero, suc, ◌*◌, ◌/◌, ◌%◌, ◌^◌, min, Bool, true, false, ◌&&◌, not, List, [], ◌∷◌, ◌++◌, map, length, take, drop, get_or, eqb, leb, ltb}
use Rattle.std.proofs.Math.Option.{Option, none, some}
use Rattle.std.proofs.Math.ListN.{get_elem?}
use Rattle.prelude.specs.Base.{when◌then◌else◌, or_else, and_then, is_some, any, all, first, same_numbers, contains}
use Rattle.definition.specs.Operations.{Operation, operation_number, operators, one_inputs, among}
use Rattle.definition.specs.Value.{Kind, Value, ActionKind, SemanticAction, operation_of}
use Rattle.definition.specs.Sizes.{Operand, fixed_size, Step, equal, exactly, by_default, steps_of, at}
use Rattle.definition.specs.End.{builds}
use Rattle.definition.specs.ActionList.{filled, list_words, places_label}

-- The input and output counts that `resolve` can give an action, and what its number stays below.

pub record Shape : Type 0 where
  pub counts : List (ℕ × Bool)
  pub below : ℕ

pub record OperationShape : Type 0 where
  pub operations : List Operation
  pub shape : Shape

abbrev pub with_output : ℕ → ℕ × Bool
with_output inputs = (inputs, true)

abbrev pub no_output : ℕ → ℕ × Bool
no_output inputs = (inputs, false)

-- labels and user ops below 256, hints to 2, Arg below 6
unfoldable pub shapes : List OperationShape
shapes =
    record { operations = operators; shape = record { counts = with_output 2 ∷ []; below = 1 } }
    ∷ record {
      operations = one_inputs ++ (Operation.Copy ∷ Operation.Load ∷ []);
      shape = record { counts = with_output 1 ∷ []; below = 1 };
    }
    ∷ record { operations = Operation.Store ∷ []; shape = record { counts = no_output 2 ∷ []; below = 1 } }
    ∷ record { operations = Operation.Branch ∷ []; shape = record { counts = no_output 2 ∷ []; below = 3 } }
    ∷ record { operations = Operation.PcodeBranch ∷ []; shape = record { counts = no_output 2 ∷ []; below = 256 } }
    ∷ record { operations = Operation.PcodeLabel ∷ []; shape = record { counts = no_output 0 ∷ []; below = 256 } }
    ∷ record {
      operations = Operation.PcodeOp ∷ [];
      shape = record {
        counts =
            map no_output (0 ∷ 1 ∷ 2 ∷ 3 ∷ 4 ∷ 5 ∷ 6 ∷ 7 ∷ 8 ∷ [])
            ++ map with_output (0 ∷ 1 ∷ 2 ∷ []);
        below = 256;
      };
    }
    ∷ record { operations = Operation.Arg ∷ []; shape = record { counts = no_output 1 ∷ []; below = 6 } }
    ∷ record { operations = Operation.Invalid ∷ []; shape = record { counts = no_output 0 ∷ []; below = 1 } }
    ∷ []

-- Words read back. A subpiece has no number in the list, so it is no operation here.

unfoldable pub operation_numbered : ℕ → Option Operation
operation_numbered n =
    first (λ (row : OperationShape).
    first (λ operation. when eqb n (operation_number operation) then some operation else none) row.operations) shapes

unfoldable pub op_numbered : ℕ → Option ActionKind
op_numbered n = and_then (operation_numbered n) λ operation. some (ActionKind.Op operation)

unfoldable pub action_kind_numbered : ℕ → ℕ → Option ActionKind
action_kind_numbered kind operation =
    or_else none (get_elem? (
    op_numbered operation
    ∷ map some (ActionKind.AddressOf ∷ ActionKind.LoadRegister ∷ ActionKind.StoreRegister ∷ ActionKind.DelaySlot
    ∷ ActionKind.Build ∷ [])) kind)

unfoldable pub kinds : List Kind
kinds =
    Kind.InstStart ∷ Kind.InstNext ∷ Kind.Register ∷ Kind.Field ∷ Kind.Subtable ∷ Kind.SubtableRef ∷ Kind.PcodeTmp
    ∷ Kind.Constant ∷ []

unfoldable pub size_from : ℕ → Option ℕ
size_from n = when eqb n 65535 then none else some n

unfoldable pub value_from : ℕ → ℕ → Option Value
value_from number word =
    and_then (get_elem? kinds (word % 256)) λ k.
    some (record { kind = k; number = number; offset = word / 256 % 65536; size = size_from (word / 2 ^ 24) })

unfoldable pub inputs_from : ℕ → List ℕ → Option (List Value)
inputs_from zero ws = some []
inputs_from (suc n) ws =
    and_then (value_from (get_or ws 0 0) (get_or ws 1 0)) λ v.
    and_then (inputs_from n (drop 2 ws)) λ vs.
    some (v ∷ vs)

unfoldable pub some_value : Option Value → Option (Option Value)
some_value v = and_then v λ w. some (some w)

unfoldable pub output_from : ActionKind → ℕ → ℕ → Option (Option Value)
output_from (ActionKind.Op operation) number word =
    when eqb number 0 && eqb word 255 then some none else some_value (value_from number word)
output_from ActionKind.AddressOf number word = some_value (value_from number word)
output_from ActionKind.LoadRegister number word = some_value (value_from number word)
output_from ActionKind.StoreRegister number word = some none
output_from ActionKind.DelaySlot number word = some none
output_from ActionKind.Build number word = some none

unfoldable pub action_from : List ℕ → Option SemanticAction
action_from ws =
    and_then (action_kind_numbered (get_or ws 0 0) (get_or ws 1 0)) λ kind.
    and_then (output_from kind (get_or ws 4 0) (get_or ws 5 0)) λ output.
    and_then (inputs_from (min (get_or ws 3 0) 8) (drop 6 ws)) λ inputs.
    some (record { kind = kind; number = get_or ws 2 0; inputs = inputs; output = output })

unfoldable pub actions_from : ℕ → List ℕ → Option (List SemanticAction)
actions_from zero ws = some []
actions_from (suc n) ws =
    and_then (action_from (take 24 ws)) λ a.
    and_then (actions_from n (drop 24 ws)) λ rest.
    some (a ∷ rest)

-- Layout, of one action.

unfoldable pub same_count : ℕ × Bool → ℕ × Bool → Bool
same_count a b = eqb a.0 b.0 && (when a.1 then b.1 else not b.1)

unfoldable pub counts_fit : Shape → SemanticAction → Bool
counts_fit shape a = any (same_count (length a.inputs, is_some a.output)) shape.counts

unfoldable pub plain_base : Value → Bool
plain_base v = not (is_some v.size) && eqb v.offset 0

-- AddressOf bases are unsized at offset 0
unfoldable pub base_fits : ActionKind → List Value → Bool
base_fits (ActionKind.Op operation) inputs = true
base_fits ActionKind.AddressOf inputs = all plain_base inputs
base_fits ActionKind.LoadRegister inputs = true
base_fits ActionKind.StoreRegister inputs = true
base_fits ActionKind.DelaySlot inputs = true
base_fits ActionKind.Build inputs = true

unfoldable pub shape_fits : SemanticAction → Shape → Bool
shape_fits a shape = counts_fit shape a && ltb a.number shape.below

unfoldable pub option_fits : {A : Type 0} → (A → Bool) → Option A → Bool
option_fits p (some x) = p x
option_fits p none = true

module _ (temporaries subtables : ℕ) where
  unfoldable pub shape_of : ActionKind → Option Shape
  shape_of (ActionKind.Op operation) =
      first (λ (row : OperationShape). when among row.operations operation then some row.shape else none) shapes
  shape_of ActionKind.AddressOf = some (record { counts = with_output 1 ∷ []; below = 1 })
  shape_of ActionKind.LoadRegister = some (record { counts = with_output 1 ∷ []; below = 1025 })
  shape_of ActionKind.StoreRegister = some (record { counts = no_output 2 ∷ []; below = 1025 })
  shape_of ActionKind.DelaySlot = some (record { counts = no_output 0 ∷ []; below = 1 })
  shape_of ActionKind.Build = some (record { counts = no_output 0 ∷ []; below = subtables })

  -- InstStart and InstNext are numbered 0; temporaries and subtables are below their counts
  unfoldable pub number_fits : Kind → ℕ → Bool
  number_fits Kind.InstStart n = eqb n 0
  number_fits Kind.InstNext n = eqb n 0
  number_fits Kind.Register n = true
  number_fits Kind.Field n = true
  number_fits Kind.Subtable n = ltb n subtables
  number_fits Kind.SubtableRef n = ltb n subtables
  number_fits Kind.PcodeTmp n = ltb n temporaries
  number_fits Kind.Constant n = true

  -- The offset and the size are within their parts of the second word, which so is below 2^40; 65,535 is no size.
  unfoldable pub value_fits : Value → Bool
  value_fits v = number_fits v.kind v.number && leb v.offset 65535 && ltb (or_else 0 v.size) 65535

  unfoldable pub layout_fits : SemanticAction → Bool
  layout_fits a =
      or_else false (and_then (shape_of a.kind) λ shape. some (shape_fits a shape))
      && all value_fits a.inputs
      && option_fits value_fits a.output
      && base_fits a.kind a.inputs

-- Sizes, of one operation: its operands are sized and obey its rule. Shift counts and Branch targets have any size.

unfoldable pub is_sized : Value → Bool
is_sized v = is_some v.size

unfoldable pub size_at : SemanticAction → Operand → Option ℕ
size_at a p = and_then (at p a) λ (v : Value). v.size

unfoldable pub has_size : ℕ → Option Value → Bool
has_size n none = true
has_size n (some v) = contains n v.size

unfoldable pub all_have_size : SemanticAction → List Operand → Option ℕ → Bool
all_have_size a ps none = true
all_have_size a ps (some n) = all (λ p. has_size n (at p a)) ps

module _ (pointer_size : ℕ) where
  unfoldable pub step_holds : SemanticAction → Step → Bool
  step_holds a (equal ps) = all_have_size a ps (first (size_at a) ps)
  step_holds a (exactly p z) = has_size (fixed_size pointer_size z) (at p a)
  step_holds a (by_default p z) = true

  unfoldable pub operation_holds : Option Operation → SemanticAction → Bool
  operation_holds none a = true
  operation_holds (some operation) a =
      all is_sized a.inputs && option_fits is_sized a.output && all (step_holds a) (steps_of (some operation))

  unfoldable pub sizes_hold : SemanticAction → Bool
  sizes_hold a = operation_holds (operation_of a.kind) a

-- The whole list: each label is placed at most once, and every subtable is built.

unfoldable pub places : ℕ → SemanticAction → Bool
places n a = places_label a && eqb n a.number

unfoldable pub labels_once : List SemanticAction → Bool
labels_once [] = true
labels_once (a ∷ rest) = not (places_label a && any (places a.number) rest) && labels_once rest

unfoldable pub all_built : List SemanticAction → ℕ → Bool
all_built actions zero = true
all_built actions (suc n) = any (builds n) actions && all_built actions n

unfoldable pub list_holds : List ℕ → ℕ → ℕ → ℕ → List SemanticAction → Bool
list_holds ws temporaries subtables pointer_size actions =
    same_numbers ws (filled (length ws) (list_words actions))
    && all (layout_fits temporaries subtables) actions
    && all (sizes_hold pointer_size) actions
    && labels_once actions
    && all_built actions subtables

-- The words, the action and temporary counts, the subtable count and the pointer size: the actions fit, and so on.
unfoldable pub check : List ℕ → ℕ → ℕ → ℕ → ℕ → Bool
check ws actions temporaries subtables pointer_size =
    when leb (24 * actions) (length ws)
    then or_else false (and_then (actions_from actions ws) λ found.
    some (list_holds ws temporaries subtables pointer_size found)) else false
