use Rattle.std.proofs.Common.{◌≡◌, ◌-◌, length}
use Rattle.access.specs.Loops.{run}
use Rattle.list_end.specs.End.{move_word, move_action}
use Rattle.list_end.proofs.end.move_action.Given as goal

abbrev pub invariant-loop-i : goal.invariant-loop-i
invariant-loop-i l = (length l.actions ≡ length l.initial.actions) × (run (24 - l.i) l.i (move_word l.from l.to) l.actions ≡ move_action l.initial.actions l.from l.to)

abbrev pub decreases-loop-i : goal.decreases-loop-i
decreases-loop-i l = 24 - l.i
