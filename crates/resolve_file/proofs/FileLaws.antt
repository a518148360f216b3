-- One law for each way out of the functions from the stream up to the file.
use mathlib.Core.Path.{◌≡◌, refl, sym, ap}
use mathlib.Core.Bool.{Bool, true, false}
use mathlib.Core.List.{List}
use Prim.Native.Nat.{ℕ, ◌/◌}
use lib.ListN.{length, replicate}
use lib.Dec.{eqb}
use borrow.Author.Tests.{eqb-false}
use Rattle.codes.specs.declared.refusal.Refusal.{Refusal}
use Rattle.codes.specs.Refusals.{number}
use Rattle.definition.specs.SectionFile.{stream_of}
use Rattle.file_blocks.specs.Blocks.{refusal_of, joined}
use Rattle.file_section.specs.Stream.{answer, read_stream}
use Rattle.file_section.specs.Stream as streams
use Rattle.resolve_file.specs.Sections.{GivenSection, read_table, read_file}
use Rattle.resolve_file.proofs.SectionLaws.{not_zero}
use Rattle.prelude.specs.Base.{when◌then◌else◌}
use Rattle.resolve_answer.specs.Answers.{refused}
use Rattle.resolve_file.specs.Files.{resolve_section, resolve_read, resolve_stream, resolve_file}

-- a file resolved by its section, and one that is refused
pub by_section : (file stream table a m : List ℕ) → GivenSection file stream table → resolve_file file a m ≡ resolve_section stream table a m
unfolding resolve_file resolve_stream resolve_read read_file read_table
by_section file stream table a m s = go (eqb (refusal_of (stream_of file)) 0) refl s.read
  where
    go : (b : Bool) → eqb (refusal_of (stream_of file)) 0 ≡ b →
        answer 0 table ≡ (when b then read_stream (joined (length file / 512) file) (replicate 3344 0) else answer (refusal_of (stream_of file)) (replicate 3344 0)) →
        (when b then resolve_stream (joined (length file / 512) file) a m else refused a m (refusal_of (stream_of file)) 65535 0) ≡ resolve_section stream table a m
    go true e f = rw (← f, s.stream_is)
    go false e f = let z : 0 ≡ refusal_of (stream_of file) = ap (λ (x : streams.Answer). x.refusal) f in absurd (eqb-false _ _ e (sym z))

pub by_refusal : (file a m : List ℕ) (r : Refusal) → number r ≡ (read_file file).refusal → resolve_file file a m ≡ refused a m (number r) 65535 0
unfolding resolve_file resolve_stream resolve_read read_file read_table
by_refusal file a m r e = go (eqb (refusal_of (stream_of file)) 0) e
  where
    go : (b : Bool) → number r ≡ (when b then read_stream (joined (length file / 512) file) (replicate 3344 0) else answer (refusal_of (stream_of file)) (replicate 3344 0)).refusal →
        (when b then resolve_stream (joined (length file / 512) file) a m else refused a m (refusal_of (stream_of file)) 65535 0) ≡ refused a m (number r) 65535 0
    go true f = rw (← f, not_zero r)
    go false f = rw f

pub ruleset file_laws = (by_section, by_refusal)
