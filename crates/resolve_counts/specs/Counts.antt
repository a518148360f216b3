-- The two counts of a table and of a stream.
use Rattle.std.specs.Prelude.{ℕ, List, replicate, eqb}
use Rattle.access.specs.Le.{le16}
use Rattle.file_section.specs.Stream.{Answer, read_stream}
use Rattle.prelude.specs.Base.{when◌then◌else◌}
use Rattle.resolve_file.specs.Files.{pointer_size}
use Rattle.resolve_counts.specs.declared.Counts.{Counts}

abbrev pub counts : ℕ → ℕ → Counts
counts subtables pointer = record { subtables = subtables; pointer = pointer }

unfoldable pub table_counts : List ℕ → List ℕ → Counts
table_counts s t = counts (le16 s 20) (pointer_size s t)

unfoldable pub read_counts : List ℕ → Answer → Counts
read_counts s r = when eqb r.refusal 0 then table_counts s r.table else counts 0 0

unfoldable pub stream_counts : List ℕ → Counts
stream_counts s = read_counts s (read_stream s (replicate 3344 0))
