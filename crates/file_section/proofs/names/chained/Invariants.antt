use Prim.Native.Nat.{◌-◌, ◌≤◌}
use mathlib.Core.Path.{◌≡◌}
use lib.ListN.{length}
use Rattle.access.specs.Loops.{run}
use Rattle.file_section.specs.Names.{reading, name_at}
use Rattle.file_section.specs.Chains.{Linked}
use Rattle.file_syntax.specs.Reads.{to_cursor}
use Rattle.file_section.proofs.names.chained.Given as goal

abbrev pub invariant-loop-i : goal.invariant-loop-i
invariant-loop-i l = (l.i ≤ l.count) × (length l.table ≡ length l.initial.table) × (run (l.count - l.i) l.i (name_at l.stream) (reading (to_cursor l.so_far) l.table) ≡ run l.count 0 (name_at l.stream) (reading (to_cursor l.initial.so_far) l.initial.table)) × Linked l.stream l.table l.chains l.i

abbrev pub decreases-loop-i : goal.decreases-loop-i
decreases-loop-i l = l.count - l.i
