use mathlib.Core.Path.{◌∙◌, ap, refl, sym}
use mathlib.Core.List.{[]}
use native.Mathlib.Omega.{arith}
use Rattle.std.proofs.lemmas.Iterator.Splits.{YieldsList-from_str_split}
use Rattle.listing_names.proofs.Laws.{from_nth, word_part}
use Rattle.listing_names.proofs.operations.word.Goals as goal

pub returns : goal.returns
returns c =
    let parts = YieldsList-from_str_split 32 c.args.words.now (omega arith) c.split.ensures.text c.split.ensures.has_more c.split.ensures.pattern in
    ap (λ r. r.now) c.unwrap_or.ensures ∙ from_nth _ (λ x. x.now) [] _ _ _ c.args.number c.nth.result _ parts c.nth.ensures.ran refl ∙ sym (word_part c.args.words.now c.args.number)
