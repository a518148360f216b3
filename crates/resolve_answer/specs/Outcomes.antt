-- What the end of a walk gives, as the words have it, with the lists that a refusal leaves zero.
use Rattle.std.specs.Prelude.{ℕ, List, Result, Ok, Err, None, Some, unwrap_or}
use Rattle.codes.specs.declared.refusal.Refusal.{Refusal}
use Rattle.codes.specs.Refusals.{number}
use Rattle.list_end.specs.declared.end.Unfinished.{Unfinished}
use Rattle.stmt_walk.specs.declared.walk.Stopped.{Stopped}
use Rattle.stmt_walk.specs.Outcomes.{Export}
use Rattle.resolve_answer.specs.declared.answer.Answer.{Answer}
use Rattle.resolve_answer.specs.declared.answer.Rejected.{Rejected}
use Rattle.resolve_answer.specs.Answers.{Resolved, resolved_to, refused, export_words}

abbrev pub to_resolved : Result Answer Rejected → List ℕ → List ℕ → Resolved
to_resolved (Ok r) a m = resolved_to r a m
to_resolved (Err e) a m = refused a m e.refusal (unwrap_or e.ordinal 65535) e.errors

-- a refusal of the file, of a statement, and of an action at the end
abbrev pub of_file : Refusal → Rejected
of_file refusal = record { refusal = number refusal; ordinal = None; errors = 0 }

abbrev pub of_statement : Stopped → Rejected
of_statement s = record { refusal = s.refusal; ordinal = Some s.ordinal; errors = 0 }

abbrev pub of_end : Unfinished → Rejected
of_end u = record { refusal = number u.refusal; ordinal = Some u.sizing.begun; errors = 0 }

-- the export's four numbers, and zeros elsewhere
abbrev pub export_numbers : Export → Answer
export_numbers x = record {
  refusal = 0;
  ordinal = 0;
  statements = 0;
  actions = 0;
  temporaries = 0;
  labels = 0;
  points = 0;
  errors = 0;
  kind = x.kind;
  number = (export_words x).number;
  word = (export_words x).second;
  size = x.size;
}
