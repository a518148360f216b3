-- The answer with the two lists that were lent, after a refusal and after acceptance.
use Rattle.std.specs.Prelude.{ℕ, ◌+◌, ◌*◌, ◌/◌, List, eqb, ltb}
use Rattle.list_values.specs.Base.{then_l}
use Rattle.prelude.specs.Base.{when◌then◌else◌}
use Rattle.list_values.specs.Values.{word}
use Rattle.list_end.specs.End.{zero_from, assemble}
use Rattle.stmt_walk.specs.Outcomes.{Walk}
use Rattle.stmt_walk.specs.Outcomes.{Export}
use Rattle.resolve_answer.specs.declared.answer.Answer.{Answer}

-- a value's two words
pub record Words : Type 0 where
  pub number : ℕ
  pub second : ℕ

-- an answer, the actions and the temporaries
pub data Resolved : Type 0 where
  resolved_to : Answer → List ℕ → List ℕ → Resolved

abbrev pub refused_answer : ℕ → ℕ → ℕ → Answer
refused_answer refusal ordinal errors = record {
  refusal = refusal;
  ordinal = ordinal;
  statements = 0;
  actions = 0;
  temporaries = 0;
  labels = 0;
  points = 0;
  errors = errors;
  kind = 0;
  number = 0;
  word = 0;
  size = 0;
}

-- both lists zero
unfoldable pub refused : List ℕ → List ℕ → ℕ → ℕ → ℕ → Resolved
refused a m refusal ordinal errors = resolved_to (refused_answer refusal ordinal errors) (zero_from a 0) (zero_from m 0)

-- 0 for numbers that no lists have
unfoldable pub points_of : ℕ → ℕ → ℕ
points_of actions temporaries =
    when ltb actions 4611686018427387904
    then (when ltb temporaries 4611686018427387904 then (2 * actions + temporaries + 5) / 10 else 0)
    else 0

abbrev pub words : ℕ → ℕ → Words
words number second = record { number = number; second = second }

-- the export's two value words, 0 and 0 where there is none
unfoldable pub export_words : Export → Words
export_words x = when eqb x.kind 0 then words 0 0 else words x.v.number (word x.v)

-- k actions
abbrev pub accepted_answer : ℕ → Walk → Export → Words → Answer
accepted_answer k w x e = record {
  refusal = 0;
  ordinal = 65535;
  statements = w.statements;
  actions = k;
  temporaries = w.st.temporaries;
  labels = w.placed;
  points = points_of k w.st.temporaries;
  errors = 0;
  kind = x.kind;
  number = e.number;
  word = e.second;
  size = x.size;
}

unfoldable pub accepted : List ℕ → List ℕ → ℕ → ℕ → Walk → Export → Resolved
accepted a m subtables n w x =
    then_l (assemble a subtables n) λ k b.
    resolved_to (accepted_answer k w x (export_words x)) b (zero_from m w.st.temporaries)
