use mathlib.Core.Path.{◌≡◌, ◌∙◌}
use Rattle.std.proofs.Common.{rules}
use Rattle.std.specs.Prelude as list
use Rattle.file_blocks.proofs.BlockLaws.{sum_same}
use Rattle.file_blocks.proofs.blocks.sum.Goals as goal

pub returns : goal.returns
returns c = let e : c.sum.result ≡ list.sum c.args.bytes.now = search rules in e ∙ sum_same c.args.bytes.now
