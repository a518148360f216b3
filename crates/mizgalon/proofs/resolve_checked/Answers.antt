use Rattle.std.proofs.Common.{rules}
use Rattle.mizgalon.proofs.Laws.{checked_laws}
use Rattle.mizgalon.proofs.resolve_checked.Goals as goal

pub returns-then-answer-ne0-clause-passes_value : goal.returns-then-answer-ne0-clause-passes_value
returns-then-answer-ne0-clause-passes_value c = search (checked_laws, rules)

pub returns-clause-passes_value : goal.returns-clause-passes_value
returns-clause-passes_value c = search (checked_laws, rules)

pub returns-clause-premise_passes : goal.returns-clause-premise_passes
returns-clause-premise_passes c = search (checked_laws, rules)
