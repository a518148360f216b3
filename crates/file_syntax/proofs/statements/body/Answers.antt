use native.Mathlib.Omega.{arith}
use Rattle.std.proofs.lemmas.Result.{err_from_is_err_and}
use Rattle.access.proofs.LoopLaws.{run_again}
use Rattle.file_syntax.specs.Statements as words
use Rattle.file_syntax.proofs.RefusedLaws.{run_stops, statement_passes}
use Rattle.file_syntax.proofs.statements.body.Goals as goal

pub loop-i-preserved : goal.loop-i-preserved
loop-i-preserved c = (omega arith, run_again _ _ _ _ _ _ (omega arith) c.loop-i.invariant.1 c.in_ok-cursor-2.ensures)

pub returns-in_err-cursor-2 : goal.returns-in_err-cursor-2
unfolding words.body
returns-in_err-cursor-2 c =
    let e = c.from_residual-in_err-cursor-2 in
    let p = err_from_is_err_and e.result e.ensures.1 in
    rw (p.1, p.2, c.in_ok-cursor.was) (run_stops _ c.loop-i.i _ _ _ _ (omega arith) c.loop-i.invariant.1 c.in_err-cursor-2.ensures (statement_passes _ _ _ c.in_err-cursor-2.field-0.0.refusal _))
