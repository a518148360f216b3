use Prim.Native.Nat.{◌-◌}
use mathlib.Core.Path.{◌≡◌}
use lib.ListN.{length}
use Rattle.list_values.specs.Directions.{forwards}
use Rattle.list_pushes.proofs.PassLaws.{Left}
use Rattle.list_pushes.proofs.passes.pass.Given as goal

abbrev pub invariant-loop-i : goal.invariant-loop-i
invariant-loop-i l =
    (length l.actions ≡ length l.initial.actions) × (length l.temporaries ≡ length l.initial.temporaries) × Left l.rules.sources.section.stream.now l.rules.sources.section.table.now (forwards l.rules.direction) l.span.base l.span.count l.rules.sources.pointer l.initial.actions l.initial.temporaries l.i l.k l.actions l.temporaries

abbrev pub decreases-loop-i : goal.decreases-loop-i
decreases-loop-i l = l.span.count - l.i
