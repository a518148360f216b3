use mathlib.Core.Path.{◌≡◌, refl}
use borrow.Author.Tests.{tests}
use Prim.Native.Nat.{◌+◌}
use lib.ListN.{get_or}
use Rattle.std.proofs.Common.{rules}
use Rattle.std.proofs.lemmas.Iterator.{YieldsList-from_range, cases_from_all}
use Rattle.file_section.proofs.AgreeLaws.{agree_is}
use Rattle.file_section.proofs.names.rest_alike.Goals as goal

pub returns : goal.returns
returns c =
    let s = c.args.stream.now in
    let a = c.args.place in
    let b = c.args.other in
    agree_is s a b c.args.count _ (cases_from_all _ _ _ (λ i. get_or s (a + i) 0 ≡ get_or s (b + i) 0) (λ i. get_or s (a + i) 0 ≡ get_or s (b + i) 0 → ⊥) c.all.ensures.ran (YieldsList-from_range 2 (c.args.count + 1) _ refl refl) (λ x q k. search (rules, tests)) (λ x q k. search (rules, tests)))
