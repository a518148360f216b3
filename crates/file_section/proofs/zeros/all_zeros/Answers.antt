use mathlib.Core.Path.{◌≡◌, sym, ◌∙◌, ap}
use borrow.Author.Tests.{tests}
use Rattle.std.specs.Int.{w64, from_le_bytes}
use Rattle.std.proofs.Common.{rules}
use Rattle.std.proofs.lemmas.Iterator.{YieldsList-from_slice, cases_from_all}
use Rattle.file_section.proofs.ZeroLaws.{clear, clear_all, clear_is, words_are}
use Rattle.file_section.proofs.zeros.all_zeros.Goals as goal

pub returns-then-all : goal.returns-then-all
returns-then-all c =
    let w = words_are c.args.bytes.now c.as_chunks.result.0.now c.all.result c.as_chunks.ensures.front c.as_chunks.ensures.front_len (cases_from_all _ _ _ (λ x. from_le_bytes w64 x ≡ 0) (λ x. from_le_bytes w64 x ≡ 0 → ⊥) c.all.ensures.ran (YieldsList-from_slice c.as_chunks.result.0.now cc) (λ x q k. search (rules, tests)) (λ x q k. search (rules, tests))) in
    let l = cases_from_all _ _ _ (λ x. x ≡ 0) (λ x. x ≡ 0 → ⊥) c.all-then-all.ensures.ran (YieldsList-from_slice c.as_chunks.result.1.now cc) (λ x q k. search (rules, tests)) (λ x q k. search (rules, tests)) in
    clear_is _ c.as_chunks.result.1.now l ∙ ap clear c.as_chunks.ensures.back ∙ sym (rw c.if-all.true at w) ∙ sym (clear_all c.args.bytes.now)

pub returns-else-all : goal.returns-else-all
returns-else-all c =
    let w = words_are c.args.bytes.now c.as_chunks.result.0.now c.all.result c.as_chunks.ensures.front c.as_chunks.ensures.front_len (cases_from_all _ _ _ (λ x. from_le_bytes w64 x ≡ 0) (λ x. from_le_bytes w64 x ≡ 0 → ⊥) c.all.ensures.ran (YieldsList-from_slice c.as_chunks.result.0.now cc) (λ x q k. search (rules, tests)) (λ x q k. search (rules, tests))) in
    c.if-all.false ∙ (rw c.if-all.false at w) ∙ sym (clear_all c.args.bytes.now)
