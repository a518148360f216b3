use Rattle.resolve_file.proofs.SectionLaws.{given_one, if_ok}
use Rattle.resolve_file.proofs.section.with_section.Goals as goal

pub returns-then-file-eq-BLOCK-clause-given : goal.returns-then-file-eq-BLOCK-clause-given
returns-then-file-eq-BLOCK-clause-given g c =
    if_ok c.with_front.result (λ made h. (h.0, given_one _ _ _ c.in_ok-check_blocks.ensures c.if-file-eq-BLOCK.true h.1 h.2, h.3)) c.with_front.ensures.given
