use Rattle.std.proofs.Common.{◌≡◌, ◌-◌, length}
use Rattle.access.specs.Loops.{run}
use Rattle.list_values.specs.Base.{listed}
use Rattle.list_end.specs.End.{implicit_build, implicit_builds}
use Rattle.list_end.proofs.end.implicit_builds.Given as goal

abbrev pub invariant-loop-i : goal.invariant-loop-i
invariant-loop-i l = (length l.actions ≡ length l.initial.actions) × (run (l.count - l.i) l.i (implicit_build l.built) (listed l.k l.actions) ≡ implicit_builds l.initial.actions l.built l.count)

abbrev pub decreases-loop-i : goal.decreases-loop-i
decreases-loop-i l = l.count - l.i
