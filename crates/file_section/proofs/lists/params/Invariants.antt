use Prim.Native.Nat.{◌-◌, ◌≤◌}
use mathlib.Core.Path.{◌≡◌}
use Rattle.access.specs.Loops.{run}
use Rattle.file_syntax.specs.Cursors as words
use Rattle.file_syntax.specs.Reads.{good}
use Rattle.file_section.proofs.lists.params.Given as goal

abbrev pub invariant-loop-index : goal.invariant-loop-index
invariant-loop-index l = (l.index ≤ l.count) × (l.count ≡ l.initial.cursor.val) × (run (l.count - l.index) l.index (λ _. words.name l.source.stream.now l.source.names) (good l.cursor) ≡ run l.count 0 (λ _. words.name l.source.stream.now l.source.names) (good l.initial.cursor))

abbrev pub decreases-loop-index : goal.decreases-loop-index
decreases-loop-index l = l.count - l.index
