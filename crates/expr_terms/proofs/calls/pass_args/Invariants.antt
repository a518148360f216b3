use mathlib.Core.Path.{◌≡◌}
use Prim.Native.Nat.{◌-◌, ◌≤◌}
use lib.ListN.{length}
use Rattle.expr_terms.specs.Calls.{pass_from, pass_args}
use Rattle.expr_terms.proofs.calls.pass_args.Given as goal

abbrev pub invariant-loop-i : goal.invariant-loop-i
invariant-loop-i l = (2 ≤ l.i) × (length l.actions ≡ length l.initial.actions) × (length l.temporaries ≡ length l.initial.temporaries) × (pass_from (l.count - l.i) l.i l.context.section.stream.now l.context.section.table.now l.actions l.temporaries l.args l.context.env l.state ≡ pass_args l.context.section.stream.now l.context.section.table.now l.initial.actions l.initial.temporaries l.args l.count l.context.env l.initial.state)

abbrev pub decreases-loop-i : goal.decreases-loop-i
decreases-loop-i l = l.count - l.i
