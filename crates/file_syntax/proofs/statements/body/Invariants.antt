use Prim.Native.Nat.{◌-◌, ◌≤◌}
use mathlib.Core.Path.{◌≡◌}
use Rattle.access.specs.Loops.{run}
use Rattle.file_syntax.specs.Statements as words
use Rattle.file_syntax.specs.Reads.{good}
use Rattle.file_syntax.proofs.statements.body.Given as goal

abbrev pub invariant-loop-i : goal.invariant-loop-i
invariant-loop-i l = (l.i ≤ l.count) × (run (l.count - l.i) l.i (λ _. words.statement l.source.stream.now l.source.names) (good l.cursor) ≡ run l.count 0 (λ _. words.statement l.source.stream.now l.source.names) (good l.initial.cursor))

abbrev pub decreases-loop-i : goal.decreases-loop-i
decreases-loop-i l = l.count - l.i
