use Prim.Native.Nat.{◌-◌, ◌≤◌}
use mathlib.Core.Path.{◌≡◌}
use lib.ListN.{length}
use Rattle.access.specs.Loops.{run}
use Rattle.file_section.specs.Names.{reading}
use Rattle.file_section.specs.Lists.{list}
use Rattle.file_syntax.specs.Reads.{to_cursor}
use Rattle.file_section.proofs.lists.lists.Given as goal

abbrev pub invariant-loop-which : goal.invariant-loop-which
invariant-loop-which l = (l.which-index ≤ 9) × (length l.table ≡ length l.initial.table) × (run (9 - l.which-index) l.which-index (list l.stream) (reading (to_cursor l.so_far) l.table) ≡ run 9 0 (list l.stream) (reading (to_cursor l.initial.so_far) l.initial.table))

abbrev pub decreases-loop-which : goal.decreases-loop-which
decreases-loop-which l = 9 - l.which-index
