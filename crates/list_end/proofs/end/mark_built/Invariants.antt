use Rattle.std.proofs.Common.{◌≡◌, ◌-◌, length}
use Rattle.access.specs.Loops.{run}
use Rattle.list_end.specs.End.{mark_action, mark_built}
use Rattle.list_end.proofs.end.mark_built.Given as goal

abbrev pub invariant-loop-i : goal.invariant-loop-i
invariant-loop-i l = (length l.built ≡ length l.initial.built) × (run (l.span.count - l.i) l.i (mark_action l.actions l.span.base) l.built ≡ mark_built l.actions l.span.base l.span.count l.initial.built)

abbrev pub decreases-loop-i : goal.decreases-loop-i
decreases-loop-i l = l.span.count - l.i
