use Prim.Native.Nat.{◌-◌, ◌≤◌}
use mathlib.Core.Path.{◌≡◌}
use lib.ListN.{length}
use Rattle.access.specs.Loops.{run}
use Rattle.codes.specs.Lists.{list_number}
use Rattle.file_section.specs.Names.{reading}
use Rattle.file_section.specs.Lists.{entry}
use Rattle.file_syntax.specs.Reads.{to_cursor}
use Rattle.file_section.proofs.lists.list.Given as goal

abbrev pub invariant-loop-index : goal.invariant-loop-index
invariant-loop-index l = (l.index ≤ l.count) × (length l.table ≡ length l.initial.table) × (run (l.count - l.index) l.index (entry (list_number l.which) l.stream) (reading (to_cursor l.so_far) l.table) ≡ run l.count 0 (entry (list_number l.which) l.stream) (reading (to_cursor l.initial.so_far) l.initial.table))

abbrev pub decreases-loop-index : goal.decreases-loop-index
decreases-loop-index l = l.count - l.index
