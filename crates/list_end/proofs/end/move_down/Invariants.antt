use Rattle.std.proofs.Common.{◌≡◌, ◌-◌, length}
use Rattle.access.specs.Loops.{run}
use Rattle.list_values.specs.Values.{place}
use Rattle.list_end.specs.End.{move_to}
use Rattle.list_end.proofs.end.move_down.Given as goal

abbrev pub invariant-loop-i : goal.invariant-loop-i
invariant-loop-i l = (length l.actions ≡ length l.initial.actions) × (run (l.span.count - l.i) l.i (move_to l.span.base (place 0 l.builds)) l.actions ≡ run l.span.count 0 (move_to l.span.base (place 0 l.builds)) l.initial.actions)

abbrev pub decreases-loop-i : goal.decreases-loop-i
decreases-loop-i l = l.span.count - l.i
