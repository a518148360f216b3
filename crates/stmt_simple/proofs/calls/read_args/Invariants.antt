use mathlib.Core.Path.{◌≡◌}
use Prim.Native.Nat.{◌-◌}
use lib.ListN.{length}
use Rattle.stmt_simple.specs.Calls.{read_args}
use Rattle.stmt_simple.proofs.calls.read_args.Given as goal

abbrev pub invariant-loop-i : goal.invariant-loop-i
invariant-loop-i l = (length l.actions ≡ length l.initial.actions) × (length l.temporaries ≡ length l.initial.temporaries) × (length l.args ≡ length l.initial.args) × (read_args (l.count - l.i) l.i l.context.section.stream.now l.context.section.table.now l.actions l.temporaries l.args l.context.env l.state ≡ read_args l.count 0 l.context.section.stream.now l.context.section.table.now l.initial.actions l.initial.temporaries l.initial.args l.context.env l.initial.state)

abbrev pub decreases-loop-i : goal.decreases-loop-i
decreases-loop-i l = l.count - l.i
