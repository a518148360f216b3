use mathlib.Core.Path.{◌≡◌}
use Prim.Native.Nat.{◌-◌}
use lib.ListN.{length}
use Rattle.access.specs.Loops.{run}
use Rattle.stmt_simple.specs.Calls.{write_input}
use Rattle.stmt_simple.proofs.calls.write_inputs.Given as goal

abbrev pub invariant-loop-i : goal.invariant-loop-i
invariant-loop-i l = (length l.actions ≡ length l.initial.actions) × (run (l.count - l.i) l.i (write_input l.at l.args) l.actions ≡ run l.count 0 (write_input l.at l.args) l.initial.actions)

abbrev pub decreases-loop-i : goal.decreases-loop-i
decreases-loop-i l = l.count - l.i
