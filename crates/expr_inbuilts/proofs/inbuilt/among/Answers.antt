use Rattle.std.proofs.Common.{nat_eq, rules, tests}
use Rattle.std.proofs.lemmas.Iterator.{YieldsList-from_slice}
use Rattle.std.proofs.lemmas.Iterator.Search.{find_from_yields_List}
use lib.Pointwise.{pointwise}
use Rattle.expr_inbuilts.proofs.InbuiltLaws.{row_law}
use Rattle.expr_inbuilts.proofs.inbuilt.among.Goals as goal

pub returns-in_err-row : goal.returns-in_err-row
returns-in_err-row c =
    let e = find_from_yields_List (λ r. pointwise nat_eq c.args.word.now r.0.now) _ _ c.find.result c.find.ensures.ran (YieldsList-from_slice c.args.rows.now cc) (λ x b q k. search (rules, tests)) in
    rw (c.from_residual.ensures) (rw (c.in_err-row.was) at (row_law c.args.word.now c.args.rows.now c.find.result e))

pub returns : goal.returns
returns c =
    let e = find_from_yields_List (λ r. pointwise nat_eq c.args.word.now r.0.now) _ _ c.find.result c.find.ensures.ran (YieldsList-from_slice c.args.rows.now cc) (λ x b q k. search (rules, tests)) in
    rw (c.in_ok-row.was) at (row_law c.args.word.now c.args.rows.now c.find.result e)
