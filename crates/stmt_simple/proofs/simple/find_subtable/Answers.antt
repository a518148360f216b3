use Rattle.std.proofs.Common.{rules, tests, eqb, ◌+◌, ◌*◌, ◌%◌}
use Rattle.std.proofs.lemmas.Iterator.{YieldsList-from_range}
use Rattle.std.proofs.lemmas.Iterator.Search.{find_from_yields_List}
use Rattle.access.specs.Le.{le16}
use Rattle.list_values.specs.Sizes.{entry}
use Rattle.stmt_simple.proofs.SimpleLaws.{found_law}
use Rattle.stmt_simple.proofs.simple.find_subtable.Goals as goal

pub returns-clause-found : goal.returns-clause-found
returns-clause-found c =
    let s = c.args.section.stream.now in
    let t = c.args.section.table.now in
    found_law s t c.args.wanted c.args.count c.find.result
    (find_from_yields_List (λ k. eqb (le16 s (entry t 8 (k % 65536 * 4) + 2)) c.args.wanted) _ _ c.find.result c.find.ensures.ran (YieldsList-from_range 0 c.args.count c.args.count (search rules) (search rules)) (λ x b q k. search (rules, tests)))
