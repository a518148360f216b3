-- What the beginning of a statement gives, as the words have it: a step to the walk in which it has begun.
use Rattle.std.specs.Prelude.{Result, Ok, Err}
use Rattle.stmt_walk.specs.declared.walk.Walk as walks
use Rattle.stmt_walk.specs.declared.walk.Stopped.{Stopped}
use Rattle.stmt_walk.specs.Outcomes.{Step, to_walk}

abbrev pub to_begun : Result walks.Walk Stopped → Step
to_begun (Ok w) = Step.Next 0 (to_walk w)
to_begun (Err s) = Step.Stop s.refusal s.ordinal
