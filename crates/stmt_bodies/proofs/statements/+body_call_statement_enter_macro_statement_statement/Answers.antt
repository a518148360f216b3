use Rattle.std.proofs.Common.{refl}
use Rattle.stmt_bodies.proofs.StatementLaws.{body_cut}
use Rattle.stmt_bodies.proofs.statements.+body_call_statement_enter_macro_statement_statement.Goals as goal

pub body-returns-then-not-forward : goal.body-returns-then-not-forward
body-returns-then-not-forward t c =
    body_cut _ _ _ _ _ _ _ _ _ _ _ c.loop-i.invariant.3 c.loop-i-test.true _ refl _ _ _ _ _ c.in_ok-next.ensures _ c.forward.ensures _ _ c.if-not-forward.true (rw c.from.ensures at c.stop.ensures)
