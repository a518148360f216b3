use Rattle.std.proofs.Common.{rules}
use native.Mathlib.Omega.{arith}
use mathlib.Core.Path.{refl}
use Rattle.file_blocks.proofs.BlockLaws.{placed, join-rest, join_more, join_start, join-end}
use Rattle.file_blocks.proofs.blocks.join.Goals as goal

pub loop-k-init : goal.loop-k-init
loop-k-init c = (omega arith, refl, refl, join_start _ c.args.stream.now _)

pub loop-k-preserved : goal.loop-k-preserved
loop-k-preserved c =
    (let x = placed c.args.file.now c.loop-k.stream _ _ c.loop-k.k c.copy_from_slice.ensures.after refl in (omega arith, search rules, join-rest c.args.file.now c.loop-k.stream _ _ c.loop-k.k (omega arith) (omega arith) x c.loop-k.invariant.2, join_more c.args.file.now c.loop-k.stream _ c.loop-k.k _ (omega arith) (omega arith) (omega arith) x c.loop-k.invariant.3))

pub shape_of-stream : goal.shape_of-stream
shape_of-stream c = c.loop-k.invariant.1

pub returns : goal.returns
returns c =
    join-end c.args.file.now c.loop-k.stream _ c.loop-k.k _ c.loop-k.invariant.0 c.loop-k-test.false c.loop-k.invariant.2 c.loop-k.invariant.3
