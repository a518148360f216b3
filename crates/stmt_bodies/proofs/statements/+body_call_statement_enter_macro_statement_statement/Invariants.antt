use Rattle.std.proofs.Common.{◌≡◌, ◌+◌, ◌-◌, ◌*◌, length}
use Rattle.stmt_walk.specs.Outcomes.{to_walk}
use Rattle.stmt_bodies.specs.Statements.{enter_macro, resolve_statement, resolve_all, resolve_body}
use Rattle.stmt_bodies.proofs.statements.+body_call_statement_enter_macro_statement_statement.Given as goal

abbrev pub decreases-body : goal.decreases-body
decreases-body l = 5 * l.deep + 4

abbrev pub decreases-call_statement : goal.decreases-call_statement
decreases-call_statement l = 5 * l.deep + 2

abbrev pub decreases-enter : goal.decreases-enter
decreases-enter l = 5 * l.deep

abbrev pub decreases-macro_statement : goal.decreases-macro_statement
decreases-macro_statement l = 5 * l.deep + 1

abbrev pub decreases-statement : goal.decreases-statement
decreases-statement l = 5 * l.deep + 3

abbrev pub invariant-body-loop-i : goal.invariant-body-loop-i
invariant-body-loop-i l = (length l.scope ≡ length l.initial.scope) × (length l.actions ≡ length l.initial.actions) × (length l.temporaries ≡ length l.initial.temporaries)
    × (resolve_all (resolve_statement (enter_macro l.deep l.context.section.stream.now l.context.section.table.now) l.context.section.stream.now l.context.section.table.now l.context.env) (length l.context.section.stream.now) (l.count - l.i) l.i l.ordinal l.at l.scope l.actions l.temporaries (to_walk l.walk) ≡ resolve_body l.deep l.context.section.stream.now l.context.section.table.now l.initial.scope l.initial.actions l.initial.temporaries l.context.env l.pos l.count l.ordinal (to_walk l.initial.walk))

abbrev pub decreases-body-loop-i : goal.decreases-body-loop-i
decreases-body-loop-i l = length l.context.section.stream.now - l.at
