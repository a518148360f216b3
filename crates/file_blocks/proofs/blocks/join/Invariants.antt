use Prim.Native.Nat.{◌-◌, ◌*◌, ◌≤◌}
use mathlib.Core.Path.{◌≡◌}
use mathlib.Core.List.{◌++◌}
use lib.ListN.{length, take, drop}
use Rattle.file_blocks.specs.Blocks.{joined}
use Rattle.file_blocks.proofs.blocks.join.Given as goal

abbrev pub invariant-loop-k : goal.invariant-loop-k
invariant-loop-k l = (l.k ≤ l.n) × (length l.stream ≡ length l.initial.stream) × (drop (510 * l.k) l.stream ≡ drop (510 * l.k) l.initial.stream) × (take (510 * l.k) l.stream ++ joined (l.n - l.k) (drop (512 * l.k) l.file) ≡ joined l.n l.file)

abbrev pub decreases-loop-k : goal.decreases-loop-k
decreases-loop-k l = l.n - l.k
