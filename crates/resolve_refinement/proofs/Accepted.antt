-- A section that is accepted: the final list, the temporaries and the twelve numbers are the definition's.
use Prim.Native.Nat.{ℕ, ◌+◌, ◌*◌, ◌^◌, ◌≤◌, ◌<◌}
use mathlib.Core.Path.{◌≡◌, refl, ◌∙◌, ap}
use mathlib.Core.List.{List, ◌++◌}
use mathlib.Core.Option.{Option, none, some}
use native.Mathlib.Omega.{arith}
use lib.ListN.{length, length-append}
use lib.Dec.{eqb}
use borrow.Author.Tests.{lt-ltb, eq-eqb}
use Rattle.prelude.specs.Base.{any, when◌then◌else◌}
use Rattle.definition.specs.Value.{SemanticAction, ExportKind, Export}
use Rattle.definition.specs.Ast.{Section}
use Rattle.definition.specs.Walk.{State}
use Rattle.definition.specs.End.{builds, implicit_builds, Semantics}
use Rattle.definition.specs.ActionList as d
use Rattle.definition.specs.ActionList.{labels_placed, points, filled, list_words, Answer, export_kind_number}
use Rattle.list_values.specs.Base.{then_l}
use Rattle.list_values.specs.Values.{word}
use Rattle.stmt_walk.specs.Outcomes.{Walk}
use Rattle.stmt_walk.specs.Outcomes.{Export as WordExport}
use Rattle.resolve_answer.specs.Answers.{Words}
use Rattle.resolve_answer.specs.Answers.{points_of, words, export_words, accepted}
use Rattle.list_refinement.specs.Encoding.{enc_v, packed, actions_in, temporaries_in, EachOption}
use Rattle.list_refinement.proofs.Operands.{word_is}
use Rattle.list_refinement.proofs.Assembling.{implicit_few, assembled_is}
use Rattle.resolve_refinement.specs.Answers.{as_answer}
use Rattle.resolve_refinement.proofs.Temporaries.{exit_temporaries}
use Rattle.expr_refinement.specs.Encoding.{tmps, count}
use Rattle.stmt_refinement.specs.Standing.{ExportIs, SoundExport}

-- a sound export, and its words
abbrev pub ExportHeld : Section → ℕ → Option Export → WordExport → Type 0
ExportHeld sec n x y = ExportIs x y × EachOption (SoundExport sec n) x

none_words : (k : ℕ) (w : Words) → k ≡ 0 → (when eqb k 0 then words 0 0 else w) ≡ words 0 0
none_words k w h = rw (eq-eqb k 0 h)

kind_words : (k : ExportKind) (w : Words) → (when eqb (export_kind_number k) 0 then words 0 0 else w) ≡ w
unfolding export_kind_number
kind_words ExportKind.PlainValue w = refl
kind_words ExportKind.RamRef w = refl
kind_words ExportKind.RegisterRef w = refl

-- the export's kind, the words of its value, its access size
export_is : (sec : Section) (n : ℕ) (x : Option Export) (y : WordExport) → ExportHeld sec n x y
    → (y.kind ≡ d.of_export x (λ (e : Export). d.export_kind_number e.kind))
    × (export_words y ≡ words (d.of_export x (λ (e : Export). e.value.number)) (d.of_export x (λ (e : Export). d.second_word e.value)))
    × (y.size ≡ d.of_export x (λ (e : Export). e.access_size))
unfolding export_words d.of_export
export_is sec n none y h = (h.0.0, none_words y.kind (words y.v.number (word y.v)) h.0.0, h.0.1)
export_is sec n (some x) y h = (
  ap (λ (z : WordExport). z.kind) h.0,
  ap export_words h.0 ∙ kind_words x.kind (words x.value.number (word (enc_v x.value)))
      ∙ ap (words x.value.number) (word_is x.value h.1.value.offset h.1.value.size) ∙ (unfold packed in refl),
  ap (λ (z : WordExport). z.size) h.0,
)

points_are : (k n : ℕ) → k < 2 ^ 62 → n < 2 ^ 62 → points_of k n ≡ points k n
unfolding points_of points
points_are k n p q = rw (lt-ltb k 4611686018427387904 p, lt-ltb n 4611686018427387904 q)

-- the twelve numbers of an accepted section, and two lists
abbrev answer_of : ℕ → ℕ → ℕ → ℕ → ℕ → ℕ → Words → ℕ → List ℕ → List ℕ → Answer
answer_of statements actions temporaries labels points kind value access a m = record {
  result = record {
    refusal = 0;
    ordinal = 65535;
    statements = statements;
    actions = actions;
    temporaries = temporaries;
    labels = labels;
    points = points;
    errors = 0;
    export_kind = kind;
    export_number = value.number;
    export_word = value.second;
    access_size = access;
  };
  actions = a;
  temporaries = m;
}

-- what the end makes of the list X before it, of the list ys after it, of the state and of the export
abbrev pub semantics : Section → List SemanticAction → List SemanticAction → State → Option Export → Semantics
semantics sec X ys q x = record {
  statements = q.statements;
  actions = implicit_builds X 0 (length sec.subtables) ++ ys;
  temporaries = tmps q;
  labels_made = q.next_label;
  export = x;
}

module _ (sec : Section) (front tail rest : List ℕ) (few : length sec.subtables ≤ 32) (begins : length front ≡ 24 * length sec.subtables) (short : length tail < 2 ^ 60) (small : length rest < 2 ^ 60) where
  -- from the list X before its end
  pub accepted_is : (X ys : List SemanticAction) (q : State) (w : Walk) (x : Option Export) (y : WordExport) → 24 * length ys ≤ length tail → ((i : ℕ) → any (builds i) ys ≡ any (builds i) X)
      → count q ≤ length rest → w.st.temporaries ≡ count q → w.statements ≡ q.statements
      → w.placed ≡ labels_placed (implicit_builds X 0 (length sec.subtables) ++ ys) → ExportHeld sec (count q) x y
      → as_answer (accepted (actions_in front tail ys) (temporaries_in rest (tmps q)) (length sec.subtables) (length ys) w y)
      ≡ d.accepted (length front + length tail) (length rest) (semantics sec X ys q x)
  unfolding accepted as_answer then_l d.accepted d.accepted_result
  accepted_is X ys q w x y fits built enough temporaries statements placed export =
      let n = implicit_few X (length sec.subtables) 0 in
      let all : List SemanticAction = implicit_builds X 0 (length sec.subtables) ++ ys in
      let l : length all ≡ length (implicit_builds X 0 (length sec.subtables)) + length ys = length-append (implicit_builds X 0 (length sec.subtables)) ys in
      let p : points_of (length all) w.st.temporaries ≡ points (length all) (count q) = points_are (length all) w.st.temporaries (omega arith) (omega arith) ∙ ap (points (length all)) temporaries in
      let x = export_is sec (count q) x y export in
      let m = exit_temporaries rest (tmps q) w.st.temporaries temporaries enough in
      rw (assembled_is front tail (length sec.subtables) few begins ys (omega arith) fits X built)
      (λ i. answer_of (statements i) (length all) (temporaries i) (placed i) (p i) (x.0 i) (x.1 i) (x.2 i) (filled (length front + length tail) (list_words all)) (m i))
