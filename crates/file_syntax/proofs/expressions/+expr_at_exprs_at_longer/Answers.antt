use mathlib.Core.Path.{sym}
use native.Mathlib.Omega.{arith}
use Rattle.std.proofs.lemmas.Result.{err_from_is_err_and}
use Rattle.access.proofs.LoopLaws.{run_again}
use Rattle.file_syntax.specs.Expressions as words
use Rattle.file_syntax.proofs.RefusedLaws.{run_stops, expr_passes}
use Rattle.file_syntax.proofs.CodeLaws.{code_refused}
use Rattle.file_syntax.proofs.expressions.+expr_at_exprs_at_longer.Goals as goal

pub exprs_at-loop-i-preserved : goal.exprs_at-loop-i-preserved
exprs_at-loop-i-preserved t c = (omega arith, c.loop-i.invariant.1, run_again _ _ _ _ _ _ (omega arith) c.loop-i.invariant.2 c.in_ok-cursor.ensures)

pub exprs_at-returns-in_err-cursor : goal.exprs_at-returns-in_err-cursor
unfolding words.counted
exprs_at-returns-in_err-cursor t c =
    let p = err_from_is_err_and c.from_residual.result c.from_residual.ensures.1 in
    rw (p.1, p.2) (run_stops _ c.loop-i.i _ _ _ _ (omega arith) c.loop-i.invariant.2 c.in_err-cursor.ensures (expr_passes _ _ _ _ c.in_err-cursor.field-0.0.refusal _))

pub longer-returns-in_err-k : goal.longer-returns-in_err-k
longer-returns-in_err-k t c =
    let p = err_from_is_err_and c.from_residual.result c.from_residual.ensures.1 in
    rw (p.1, p.2) (sym (code_refused c.args.depth _ _ _ c.in_err-k.field-0.0.refusal _ _ (sym c.in_err-k.ensures)))
