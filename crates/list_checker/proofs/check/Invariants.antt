use Prim.Native.Nat.{◌-◌, ◌≤◌}
use mathlib.Core.Path.{◌≡◌}
use mathlib.Core.Bool.{true}
use Rattle.list_checker.specs.Sweep.{all_built_by}
use Rattle.list_checker.proofs.check.Given as goal

abbrev pub invariant-loop-rows : goal.invariant-loop-rows
invariant-loop-rows l = (l.base ≤ l.subtables) × (all_built_by l.actions l.list l.base ≡ true)

abbrev pub decreases-loop-rows : goal.decreases-loop-rows
decreases-loop-rows l = l.subtables - l.base
