-- A file read: what its reader gives, and the section that a step is called with.
use Rattle.std.specs.Prelude.{ℕ, ◌≡◌, ◌/◌, List, length, replicate, eqb}
use Rattle.prelude.specs.Base.{when◌then◌else◌}
use Rattle.file_blocks.specs.Blocks.{refusal_of, joined}
use Rattle.file_section.specs.Stream.{Answer, answer, read_stream}
use Rattle.definition.specs.SectionFile.{stream_of}

-- a stream's refusal, or 0, and its table
unfoldable pub read_table : List ℕ → Answer
read_table stream = read_stream stream (replicate 3344 0)

-- the refusal of the blocks, else that of the stream, or 0; and the table
unfoldable pub read_file : List ℕ → Answer
read_file file =
    when eqb (refusal_of (stream_of file)) 0 then read_table (joined (length file / 512) file)
    else answer (refusal_of (stream_of file)) (replicate 3344 0)

-- the stream of a file that is not refused, and its table
pub record GivenSection (file stream table : List ℕ) : Type 0 where
  pub stream_is : stream ≡ joined (length file / 512) file
  pub read : answer 0 table ≡ read_file file
