use Rattle.file_section.proofs.ChainLaws.{walk_start, walk_less, walk_on}
use Rattle.file_section.proofs.names.known.Goals as goal

pub loop-j-init : goal.loop-j-init
loop-j-init c =
    walk_start _ _ _ _ _ _ _ _ c.requires c.get.ensures c.from-j.ensures

pub loop-j-smaller : goal.loop-j-smaller
loop-j-smaller c =
    walk_less _ _ _ _ _ _ _ _ _ c.requires c.loop-j.invariant c.loop-j-test.true c.get-in-loop-j-2.ensures c.from-j-in-loop-j.ensures

pub loop-j-preserved : goal.loop-j-preserved
loop-j-preserved c =
    walk_on _ _ _ _ _ _ _ _ _ _ _ _ c.requires c.loop-j.invariant c.loop-j-test.true c.get-in-loop-j.ensures c.from.ensures c.alike.ensures c.if-alike.false c.get-in-loop-j-2.ensures c.from-j-in-loop-j.ensures
