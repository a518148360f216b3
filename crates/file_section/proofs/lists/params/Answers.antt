use native.Mathlib.Omega.{arith}
use Rattle.std.proofs.lemmas.Result.{err_from_is_err_and}
use Rattle.access.proofs.LoopLaws.{run_again}
use Rattle.file_syntax.specs.Expressions.{counted}
use Rattle.file_syntax.proofs.RefusedLaws.{run_stops, u16_passes}
use Rattle.file_section.specs.Lists as words
use Rattle.file_section.proofs.lists.params.Goals as goal

pub loop-index-preserved : goal.loop-index-preserved
loop-index-preserved c = (omega arith, c.loop-index.invariant.1, run_again _ _ _ _ _ _ (omega arith) c.loop-index.invariant.2 c.in_ok-cursor.ensures)

pub returns-in_err-cursor : goal.returns-in_err-cursor
unfolding words.params counted
returns-in_err-cursor c =
    let p = err_from_is_err_and c.from_residual.result c.from_residual.ensures.1 in
    rw (p.1, p.2) (run_stops _ c.loop-index.index _ _ _ _ (omega arith) c.loop-index.invariant.2 c.in_err-cursor.ensures (u16_passes _ _ _ _ c.in_err-cursor.field-0.0.refusal _))
