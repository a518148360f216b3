use mathlib.Core.Path.{◌≡◌}
use Prim.Native.Nat.{◌-◌}
use lib.ListN.{length}
use Rattle.access.specs.Loops.{run}
use Rattle.stmt_simple.specs.Calls.{bind_name}
use Rattle.stmt_simple.proofs.calls.bind_names.Given as goal

abbrev pub invariant-loop-i : goal.invariant-loop-i
invariant-loop-i l = (length l.args ≡ length l.initial.args) × (run (l.count - l.i) l.i (bind_name l.stream l.names) l.args ≡ run l.count 0 (bind_name l.stream l.names) l.initial.args)

abbrev pub decreases-loop-i : goal.decreases-loop-i
decreases-loop-i l = l.count - l.i
