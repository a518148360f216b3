use Rattle.std.proofs.Common.{nat_eq, rules, tests}
use Rattle.std.proofs.lemmas.Iterator.{YieldsList-from_slice}
use Rattle.std.proofs.lemmas.Iterator.Search.{find_from_yields_List}
use Rattle.codes.specs.Refusals.{number}
use Rattle.codes.proofs.refusal.among.Goals as goal

pub returns : goal.returns
returns c =
    let e = find_from_yields_List (λ r. nat_eq (number r) c.args.number) _ _ c.find.result c.find.ensures.ran (YieldsList-from_slice c.args.refusals.now cc) (λ x b q k. search (rules, tests)) in
    rw c.copied.ensures e
