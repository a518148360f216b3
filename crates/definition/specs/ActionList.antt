-- THE ACTION LIST, the second list and the result as words; and `resolve`, which public contracts cite.
use Rattle.std.specs.Prelude.{ℕ, zero, suc, ◌+◌, ◌*◌, ◌/◌, ◌^◌, min, Bool, false, List, [], ◌∷◌, ◌++◌, map, length, replicate}
use Rattle.std.proofs.Math.Option.{Option, none, some}
use Rattle.prelude.specs.Base.{when◌then◌else◌, or_else, and_then, sum}
use Rattle.definition.specs.Refusals.{Refusal, refusal_number}
use Rattle.definition.specs.Operations.{Operation, operation_number, is_op}
use Rattle.definition.specs.Value.{Value, kind_number, ActionKind, SemanticAction, operation_of, Temporary, ExportKind, Export}
use Rattle.definition.specs.Ast.{Section}
use Rattle.definition.specs.SectionFile.{Parsed, parsed, refused, read}
use Rattle.definition.specs.Walk.{Env, Outcome, done, stopped}
use Rattle.definition.specs.End.{Semantics, resolve_section, at_start}

-- none is 65,535
unfoldable pub or_none : Option ℕ → ℕ
or_none x = or_else 65535 x

-- a value is two words: its number, and this one
abbrev pub second_word : Value → ℕ
second_word v = kind_number v.kind + 256 * v.offset + 2 ^ 24 * or_none v.size

unfoldable pub value_words : Value → List ℕ
value_words v = v.number ∷ second_word v ∷ []

unfoldable pub input_words : List Value → List ℕ
input_words [] = []
input_words (v ∷ vs) = value_words v ++ input_words vs

-- word 0, in the order of `SemanticAction`
unfoldable pub action_kind_number : ActionKind → ℕ
action_kind_number (ActionKind.Op operation) = 0
action_kind_number ActionKind.AddressOf = 1
action_kind_number ActionKind.LoadRegister = 2
action_kind_number ActionKind.StoreRegister = 3
action_kind_number ActionKind.DelaySlot = 4
action_kind_number ActionKind.Build = 5

-- an Op without output has 0 and 255, another action 0 and 0
unfoldable pub output_words : Option Operation → Option Value → List ℕ
output_words operation (some v) = value_words v
output_words (some operation) none = 0 ∷ 255 ∷ []
output_words none none = 0 ∷ 0 ∷ []

unfoldable pub operation_word : Option Operation → ℕ
operation_word (some operation) = operation_number operation
operation_word none = 0

-- n words: these, then zeros
unfoldable pub filled : ℕ → List ℕ → List ℕ
filled zero words = []
filled (suc n) [] = 0 ∷ filled n []
filled (suc n) (w ∷ words) = w ∷ filled n words

-- an action is 24 words
unfoldable pub action_words : SemanticAction → List ℕ
action_words a =
    let operation = operation_of a.kind in
    filled 24 (
    action_kind_number a.kind
    ∷ operation_word operation
    ∷ a.number
    ∷ length a.inputs
    ∷ output_words operation a.output ++ input_words a.inputs)

unfoldable pub list_words : List SemanticAction → List ℕ
list_words [] = []
list_words (a ∷ rest) = action_words a ++ list_words rest

-- the second list has a word per temporary
unfoldable pub temporary_word : Temporary → ℕ
temporary_word t = or_none t.name + 65536 * or_none t.size

-- The result.

unfoldable pub places_label : SemanticAction → Bool
places_label a = or_else false (and_then (operation_of a.kind) λ operation. some (is_op Operation.PcodeLabel operation))

unfoldable pub labels_placed : List SemanticAction → ℕ
labels_placed actions = sum (map (λ a. when places_label a then 1 else 0) actions)

unfoldable pub points : ℕ → ℕ → ℕ
points actions temporaries = (2 * actions + temporaries + 5) / 10

unfoldable pub export_kind_number : ExportKind → ℕ
export_kind_number ExportKind.PlainValue = 1
export_kind_number ExportKind.RamRef = 2
export_kind_number ExportKind.RegisterRef = 3

-- a number of the export, 0 where there is none
unfoldable pub of_export : Option Export → (Export → ℕ) → ℕ
of_export none f = 0
of_export (some x) f = f x

-- The twelve numbers: the refusal's, or 0, and its ordinal, or 65,535; the counts, the labels being those placed; the
-- export's kind, or 0, the two words of its value, its access size.
pub record Result : Type 0 where
  pub refusal : ℕ
  pub ordinal : ℕ
  pub statements : ℕ
  pub actions : ℕ
  pub temporaries : ℕ
  pub labels : ℕ
  pub points : ℕ
  pub errors : ℕ
  pub export_kind : ℕ
  pub export_number : ℕ
  pub export_word : ℕ
  pub access_size : ℕ

-- in document 01's order
abbrev pub numbers : Result → List ℕ
numbers r =
    r.refusal ∷ r.ordinal ∷ r.statements ∷ r.actions ∷ r.temporaries ∷ r.labels ∷ r.points ∷ r.errors
    ∷ r.export_kind ∷ r.export_number ∷ r.export_word ∷ r.access_size ∷ []

-- The result, and every word of the two lent lists.
pub record Answer : Type 0 where
  pub result : Result
  pub actions : List ℕ
  pub temporaries : List ℕ

-- a refusal zeroes all but its number, ordinal and, for 51, the error count
unfoldable pub refusal_result : Refusal → Option ℕ → ℕ → Result
refusal_result r ordinal errors = record {
  refusal = refusal_number r;
  ordinal = or_none ordinal;
  statements = 0;
  actions = 0;
  temporaries = 0;
  labels = 0;
  points = 0;
  errors = errors;
  export_kind = 0;
  export_number = 0;
  export_word = 0;
  access_size = 0;
}

unfoldable pub accepted_result : Semantics → Result
accepted_result x = record {
  refusal = 0;
  ordinal = 65535;
  statements = x.statements;
  actions = length x.actions;
  temporaries = length x.temporaries;
  labels = labels_placed x.actions;
  points = points (length x.actions) (length x.temporaries);
  errors = 0;
  export_kind = of_export x.export λ (e : Export). export_kind_number e.kind;
  export_number = of_export x.export λ (e : Export). e.value.number;
  export_word = of_export x.export λ (e : Export). second_word e.value;
  access_size = of_export x.export λ (e : Export). e.access_size;
}

-- the lent words hold so many actions and temporaries; and there are 512 temporaries at most
unfoldable pub room_for : Section → ℕ → ℕ → Env
room_for sec lent_actions lent_temporaries =
    record { section = sec; action_room = lent_actions / 24; temporary_room = min lent_temporaries 512 }

-- what is said of a refused file, and of a section that is read
unfoldable pub when_read : {A : Type 0} → (Refusal → A) → (Section → A) → Parsed Section → A
when_read f g (refused r) = f r
when_read f g (parsed sec rest) = g sec

-- The answer, with lent lists of so many words.
module _ (lent_actions lent_temporaries : ℕ) where
  unfoldable pub refusal : Refusal → Option ℕ → ℕ → Answer
  refusal r ordinal errors = record {
    result = refusal_result r ordinal errors;
    actions = replicate lent_actions 0;
    temporaries = replicate lent_temporaries 0;
  }

  unfoldable pub accepted : Semantics → Answer
  accepted x = record {
    result = accepted_result x;
    actions = filled lent_actions (list_words x.actions);
    temporaries = filled lent_temporaries (map temporary_word x.temporaries);
  }

  unfoldable pub answered : Outcome Semantics → Answer
  answered (done x s) = accepted x
  answered (stopped r ordinal errors) = refusal r ordinal errors

  unfoldable pub resolve_read : Parsed Section → Answer
  resolve_read = when_read
      (λ r. refusal r none 0)
      (λ sec. answered (resolve_section (room_for sec lent_actions lent_temporaries) (at_start sec)))

-- A file's answer.
unfoldable pub resolve : List ℕ → ℕ → ℕ → Answer
resolve file lent_actions lent_temporaries = resolve_read lent_actions lent_temporaries (read file)
