-- How the code's lists, values and states hold the definition's: each is a function of what it holds. And what has to be
-- true of values, actions and temporaries for that: numbers within their lists, offsets and sizes within their words.
pub use Rattle.definition_guarantee.specs.Tests.{Each}
use Rattle.std.specs.Prelude.{ℕ, ◌+◌, ◌*◌, ◌^◌, ◌≤◌, ◌<◌, ◌/◌, min, ◌≡◌, List, [], ◌∷◌, ◌++◌, map, length, drop}
use Rattle.std.proofs.Math.Option.{Option, none, some}
use Rattle.std.proofs.Math.ListN.{get_elem?}
use Rattle.prelude.specs.Base.{or_else, and_then}
use Rattle.definition.specs.Value.{Kind, kind_number, Value, SemanticAction, Temporary}
use Rattle.definition.specs.Ast.{Register, Field, Section}
use Rattle.definition.specs.Sizes as d
use Rattle.definition.specs.Sizes.{Sizing, pointer_size}
use Rattle.definition.specs.Walk.{State, Env}
use Rattle.definition.specs.ActionList.{or_none, list_words, temporary_word}
use Rattle.list_values.specs.declared.value.Value.{Value as WordValue}
use Rattle.list_values.specs.declared.sizes.Sizing.{Sizing as WordSizing}
use Rattle.list_pushes.specs.declared.push.State.{State as WordState}
use Rattle.list_values.specs.Sizes.{list_size, export_size_of}
use Rattle.definition.specs.Operations.{Operation}
use Rattle.list_values.specs.Values.{absent, no_output}

-- a value; its second word is that of `value_words`
abbrev pub enc_v : Value → WordValue
enc_v v = record { kind = kind_number v.kind; number = v.number; offset = v.offset; size = or_none v.size }

unfoldable pub packed : Value → ℕ
packed v = kind_number v.kind + 256 * v.offset + 2 ^ 24 * or_none v.size

-- Actions stand behind the words reserved for the Builds, in front of what is left of the lent words.
abbrev pub actions_in : List ℕ → List ℕ → List SemanticAction → List ℕ
actions_in front tail xs = front ++ (list_words xs ++ drop (24 * length xs) tail)

-- Temporaries stand in front of what is left of the lent words.
abbrev pub temporaries_in : List ℕ → List Temporary → List ℕ
temporaries_in tail ts = map temporary_word ts ++ drop (length ts) tail

unfoldable pub first_error : List (Option ℕ) → ℕ
first_error [] = 65535
first_error (x ∷ xs) = or_none x

abbrev pub enc_z : Sizing → WordSizing
enc_z z = record { begun = or_none z.begun; errors = length z.errors; first = first_error z.errors }

-- the actions begin at a position
abbrev pub enc_s : ℕ → State → WordState
enc_s base s = record { end = base + 24 * length s.actions; temporaries = length s.sizing.temporaries; sizing = enc_z s.sizing }

-- A number is within the list that its kind names.
abbrev pub Within : Section → ℕ → Kind → ℕ → Type 0
Within sec temporaries Kind.InstStart n = Unit {0}
Within sec temporaries Kind.InstNext n = Unit {0}
Within sec temporaries Kind.Register n = n < length sec.registers
Within sec temporaries Kind.Field n = n < length sec.fields
Within sec temporaries Kind.Subtable n = n < length sec.subtables
Within sec temporaries Kind.SubtableRef n = n < length sec.subtables
Within sec temporaries Kind.PcodeTmp n = n < temporaries
Within sec temporaries Kind.Constant n = Unit {0}

-- a value that its words hold
pub record Sound (sec : Section) (temporaries : ℕ) (v : Value) : Type 0 where
  pub number : Within sec temporaries v.kind v.number
  pub offset : v.offset ≤ 65535
  pub size : or_else 0 v.size < 65535

-- a temporary that its word holds
pub record SoundTmp (t : Temporary) : Type 0 where
  pub name : or_none t.name ≤ 65535
  pub size : or_else 0 t.size < 65535

abbrev pub EachOption : {A : Type 0} → (A → Type 0) → Option A → Type 0
EachOption P none = Unit {0}
EachOption P (some x) = P x

-- an action whose values are such
pub record SoundAction (sec : Section) (temporaries : ℕ) (a : SemanticAction) : Type 0 where
  pub inputs : Each (Sound sec temporaries) a.inputs
  pub output : EachOption (Sound sec temporaries) a.output

-- The stream s and the table t hold the sizes of the section's symbols, all below 65,535.
pub record SizesHold (s t : List ℕ) (sec : Section) : Type 0 where
  pub registers : (i : ℕ) → i < length sec.registers → list_size s t 1 i
      ≡ or_none (and_then (get_elem? sec.registers i) λ (x : Register). some x.size)
  pub fields : (i : ℕ) → i < length sec.fields → list_size s t 7 i ≡ or_none (and_then (get_elem? sec.fields i) λ (x : Field). x.size)
  pub exports : (i : ℕ) → i < length sec.subtables → export_size_of s t i ≡ or_none (d.export_size_of sec i)
  pub registers_small : (i : ℕ) → or_else 0 (and_then (get_elem? sec.registers i) λ (x : Register). some x.size) < 65535
  pub fields_small : (i : ℕ) → or_else 0 (and_then (get_elem? sec.fields i) λ (x : Field). x.size) < 65535
  pub exports_small : (i : ℕ) → or_else 0 (d.export_size_of sec i) < 65535
  pub pointer_small : pointer_size sec < 65535

-- the values that a push is given
-- the values of an action with up to two inputs: absent where there is none, `no_output` where an operation has no output
unfoldable pub first_of : List Value → WordValue
first_of [] = absent
first_of (v ∷ vs) = enc_v v

unfoldable pub second_of : List Value → WordValue
second_of [] = absent
second_of (u ∷ []) = absent
second_of (u ∷ v ∷ vs) = enc_v v

unfoldable pub output_of : Option Operation → Option Value → WordValue
output_of o (some v) = enc_v v
output_of (some op) none = no_output
output_of none none = absent

-- What is lent: words for the actions, the first of them for the Builds, and words for the temporaries.
pub record Lent (e : Env) (front tail rest : List ℕ) : Type 0 where
  pub builds : length front ≡ 24 * length e.section.subtables
  pub action_room : e.action_room ≡ (length front + length tail) / 24
  pub temporary_room : e.temporary_room ≡ min (length rest) 512
