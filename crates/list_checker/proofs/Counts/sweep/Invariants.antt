use Prim.Native.Nat.{◌≤◌}
use mathlib.Core.Bool.{false}
use mathlib.Core.Path.{◌≡◌}
use lib.ListN.{length, drop, replicate}
use Rattle.list_checker.specs.Sweep.{sweep}
use Rattle.list_checker.proofs.Counts.sweep.Given as goal

abbrev pub invariant-loop-action : goal.invariant-loop-action
invariant-loop-action l = (l.action-index ≤ length l.actions) × (sweep l.self.temporaries l.self.subtables l.self.pointer l.base (drop l.action-index l.actions) l.seen l.built ≡ sweep l.self.temporaries l.self.subtables l.self.pointer l.base l.actions (replicate 256 false) (replicate 256 false))
