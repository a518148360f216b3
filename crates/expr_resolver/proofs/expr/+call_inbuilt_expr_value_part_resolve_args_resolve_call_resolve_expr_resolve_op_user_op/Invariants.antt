use Prim.Native.Nat.{◌+◌, ◌*◌, ◌-◌}
use mathlib.Core.Path.{◌≡◌}
use lib.ListN.{length}
use Rattle.expr_resolver.specs.Expressions as spec
use Rattle.expr_resolver.proofs.expr.+call_inbuilt_expr_value_part_resolve_args_resolve_call_resolve_expr_resolve_op_user_op.Given as goal

abbrev pub decreases-call_inbuilt : goal.decreases-call_inbuilt
decreases-call_inbuilt l = 4 * l.deep + 2

abbrev pub decreases-expr_value : goal.decreases-expr_value
decreases-expr_value l = 4 * l.deep + 1

abbrev pub decreases-part : goal.decreases-part
decreases-part l = 4 * l.deep + 1

abbrev pub decreases-resolve_args : goal.decreases-resolve_args
decreases-resolve_args l = 4 * l.deep + 1

abbrev pub decreases-resolve_call : goal.decreases-resolve_call
decreases-resolve_call l = 4 * l.deep + 3

abbrev pub decreases-resolve_expr : goal.decreases-resolve_expr
decreases-resolve_expr l = 4 * l.deep

abbrev pub decreases-resolve_op : goal.decreases-resolve_op
decreases-resolve_op l = 4 * l.deep + 2

abbrev pub decreases-user_op : goal.decreases-user_op
decreases-user_op l = 4 * l.deep + 2

abbrev pub invariant-resolve_args-loop-i : goal.invariant-resolve_args-loop-i
invariant-resolve_args-loop-i l = (length l.actions ≡ length l.initial.actions) × (length l.temporaries ≡ length l.initial.temporaries) × (length l.args ≡ length l.initial.args) × (spec.resolve_args (spec.resolve_expr l.deep l.context.section.stream.now l.context.section.table.now l.scope l.context.env) (l.count - l.i) l.i l.at l.actions l.temporaries l.args l.state ≡ spec.resolve_args (spec.resolve_expr l.deep l.context.section.stream.now l.context.section.table.now l.scope l.context.env) l.count 0 l.initial.at l.initial.actions l.initial.temporaries l.initial.args l.initial.state)

abbrev pub decreases-resolve_args-loop-i : goal.decreases-resolve_args-loop-i
decreases-resolve_args-loop-i l = l.count - l.i
