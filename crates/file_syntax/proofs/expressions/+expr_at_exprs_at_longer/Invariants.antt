use Prim.Native.Nat.{◌+◌, ◌-◌, ◌≤◌}
use mathlib.Core.Path.{◌≡◌}
use Rattle.access.specs.Loops.{run}
use Rattle.file_syntax.specs.Expressions as e
use Rattle.file_syntax.specs.Reads.{good}
use Rattle.file_syntax.proofs.expressions.+expr_at_exprs_at_longer.Given as goal

abbrev pub decreases-expr_at : goal.decreases-expr_at
decreases-expr_at l = l.depth + l.depth + l.depth + 1

abbrev pub decreases-exprs_at : goal.decreases-exprs_at
decreases-exprs_at l = l.depth + l.depth + l.depth + 2

abbrev pub decreases-longer : goal.decreases-longer
decreases-longer l = l.depth + l.depth + l.depth

abbrev pub invariant-exprs_at-loop-i : goal.invariant-exprs_at-loop-i
invariant-exprs_at-loop-i l = (l.i ≤ l.n) × (l.n ≡ l.initial.cursor.val) × (run (l.n - l.i) l.i (λ _. e.expr l.depth l.source.stream.now l.source.names) (good l.cursor) ≡ run l.n 0 (λ _. e.expr l.depth l.source.stream.now l.source.names) (good l.initial.cursor))

abbrev pub decreases-exprs_at-loop-i : goal.decreases-exprs_at-loop-i
decreases-exprs_at-loop-i l = l.n - l.i
