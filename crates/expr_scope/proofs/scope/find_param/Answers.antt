use Rattle.std.proofs.Common.{rules, tests, eqb, get_or, ◌+◌}
use Rattle.std.proofs.lemmas.Iterator.Search.{find_from_yields_List}
use Rattle.expr_scope.specs.Slots.{param_place}
use Rattle.expr_scope.proofs.ScopeLaws.{last_law, yields_down}
use Rattle.expr_scope.proofs.scope.find_param.Goals as goal

pub returns : goal.returns
returns c =
    let scope = c.args.scope.now in
    last_law scope c.args.name c.args.count c.find.result
    (find_from_yields_List (λ i. eqb (get_or scope (param_place i + 0) 0) c.args.name) _ _ c.find.result c.find.ensures.ran (yields_down c.rev.result c.args.count (search rules)) (λ x b q k. search (rules, tests)))
