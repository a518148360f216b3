use mathlib.Core.Path.{◌∙◌, refl, sym}
use Rattle.expr_inbuilts.proofs.InbuiltLaws.{spelled_part, cut_or_whole}
use Rattle.expr_inbuilts.proofs.inbuilt.spelled.Goals as goal

pub returns : goal.returns
returns c =
    let rest = c.in-Some.ensures.lookup.0 in
    let cut = cut_or_whole _ _ _ c.get-2.result c.from.ensures c.get-2.ensures.lookup.0 in
    spelled_part c.args.stream.now _ c.args.at _ _ _ c.get-2.result rest.0 (sym rest.2 ∙ c.in-Some-split_first.ensures.cases.0) refl c.unwrap_or.ensures cut
