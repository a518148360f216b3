use Prim.Native.Nat.{◌/◌}
use mathlib.Core.Path.{◌≡◌}
use lib.ListN.{length}
use Rattle.std.specs.Iterator.Adapters.{enumerate_source, enumerate_count}
use Rattle.std.specs.Slice.Iter.{chunks_exact_rest, chunks_exact_size}
use Rattle.definition.specs.SectionFile.{payloads, stream_of}
use Rattle.file_blocks.specs.Blocks.{refusal_of}
use Rattle.file_blocks.proofs.blocks.check_blocks.Given as goal

-- what is left is whole blocks from block number `count` on
abbrev pub invariant-loop-k : goal.invariant-loop-k
invariant-loop-k l =
    let left = chunks_exact_rest (enumerate_source l.k-iterator) in
    (chunks_exact_size (enumerate_source l.k-iterator) ≡ 512)
    × (refusal_of (payloads (length left / 512) (enumerate_count l.k-iterator) left) ≡ refusal_of (stream_of l.file))
