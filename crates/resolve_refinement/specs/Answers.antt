-- A call's answer as the definition has it: the result, and every word of the two lent lists.
use Rattle.std.specs.Prelude.{ℕ, List}
use Rattle.definition.specs.ActionList.{Result, Answer}
use Rattle.resolve_answer.specs.declared.answer.Answer.{Answer as Numbers}
use Rattle.resolve_answer.specs.Answers.{Resolved, resolved_to}

abbrev pub result_of : Numbers → Result
result_of r = record {
  refusal = r.refusal;
  ordinal = r.ordinal;
  statements = r.statements;
  actions = r.actions;
  temporaries = r.temporaries;
  labels = r.labels;
  points = r.points;
  errors = r.errors;
  export_kind = r.kind;
  export_number = r.number;
  export_word = r.word;
  access_size = r.size;
}

abbrev pub answer : Result → List ℕ → List ℕ → Answer
answer x actions temporaries = record { result = x; actions = actions; temporaries = temporaries }

unfoldable pub as_answer : Resolved → Answer
as_answer (resolved_to r a m) = answer (result_of r) a m
