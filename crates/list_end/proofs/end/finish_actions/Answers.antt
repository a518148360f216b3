use Rattle.std.proofs.Common.{refl, arith}
use Rattle.std.proofs.lemmas.Result.{err_from_is_err_and}
use Rattle.list_end.proofs.EndLaws.{finish_stop}
use Rattle.list_end.proofs.end.finish_actions.Goals as goal

pub returns-in_err-sizing : goal.returns-in_err-sizing
returns-in_err-sizing c =
    let p = err_from_is_err_and c.from_residual.result c.from_residual.ensures.1 in
    rw (p.1, p.2) (finish_stop _ _ _ _ _ _ _ _ _ _ c.loop-i.invariant.1 _ _ _ (omega arith) c.place-at.ensures c.in_err-sizing.ensures _ refl)
