use mathlib.Core.Path.{◌∙◌}
use native.Mathlib.Omega.{arith}
use Rattle.file_blocks.proofs.BlockLaws.{block_right, block-wrong, blocks_end}
use Rattle.file_blocks.proofs.blocks.check_blocks.Goals as goal

pub returns-then-not-checks_out : goal.returns-then-not-checks_out
returns-then-not-checks_out c =
    let s = c.in-Some.ensures.steps in
    block-wrong _ _ _ _ _ _ _ s.0.1.0 (s.0.1.1 ∙ c.loop-k.invariant.0) s.1 c.checks_out.ensures c.if-not-checks_out.true c.loop-k.invariant.1

pub loop-k-preserved : goal.loop-k-preserved
loop-k-preserved c =
    let s = c.in-Some.ensures.steps in
    (s.0.0 ∙ c.loop-k.invariant.0, rw s.2 (block_right _ _ _ _ _ _ _ s.0.1.0 (s.0.1.1 ∙ c.loop-k.invariant.0) s.1 c.checks_out.ensures c.if-not-checks_out.false c.loop-k.invariant.1))

pub returns : goal.returns
returns c =
    let s = c.in-None.ensures.steps in
    blocks_end _ _ _ (omega (arith, s.0.1.0, c.loop-k.invariant.0)) c.loop-k.invariant.1
