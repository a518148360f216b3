-- What is counted of a section, and of a file that is refused.
use mathlib.Core.Path.{◌≡◌, refl, sym, ◌∙◌, ap}
use mathlib.Core.Bool.{Bool, true, false}
use mathlib.Core.List.{List}
use Prim.Native.Nat.{ℕ, ◌/◌}
use lib.ListN.{length, replicate}
use lib.Dec.{eqb}
use borrow.Author.Tests.{ne_eqb, eqb-true, eqb-false}
use Rattle.prelude.specs.Base.{when◌then◌else◌}
use Rattle.codes.specs.declared.refusal.Refusal.{Refusal}
use Rattle.codes.specs.Refusals.{number}
use Rattle.codes.proofs.Numbers.{number-nonzero}
use Rattle.definition.specs.SectionFile.{stream_of, read}
use Rattle.definition.specs.Passing.{subtable_count, pointer_size_in}
use Rattle.file_blocks.specs.Blocks.{refusal_of, joined}
use Rattle.file_section.specs.Stream.{answer}
use Rattle.file_section.specs.Stream as streams
use Rattle.resolve_file.specs.Sections.{GivenSection, read_table, read_file}
use Rattle.resolve_counts.specs.Counts.{counts, table_counts, read_counts, stream_counts}
use Rattle.resolve_counts.proofs.Theorem.{file-counts, refused-counts}

not_zero : (r : Refusal) → eqb (number r) 0 ≡ false
not_zero r = ne_eqb (number r) 0 (number-nonzero r)

module _ (file : List ℕ) where
  pub by_section : (stream table : List ℕ) → GivenSection file stream table → table_counts stream table ≡ counts (subtable_count (read file)) (pointer_size_in (read file))
  unfolding stream_counts read_counts read_file read_table
  by_section stream table s = go (eqb (refusal_of (stream_of file)) 0) refl s.read
    where
      go : (b : Bool) → eqb (refusal_of (stream_of file)) 0 ≡ b →
          answer 0 table ≡ (when b then read_table (joined (length file / 512) file) else answer (refusal_of (stream_of file)) (replicate 3344 0)) →
          table_counts stream table ≡ counts (subtable_count (read file)) (pointer_size_in (read file))
      go true e f = let k : stream_counts (joined (length file / 512) file) ≡ table_counts stream table = rw (← f, s.stream_is) in sym k ∙ file-counts file (eqb-true _ _ e)
      go false e f = let z : 0 ≡ refusal_of (stream_of file) = ap (λ (x : streams.Answer). x.refusal) f in absurd (eqb-false _ _ e (sym z))

  pub by_refusal : (r : Refusal) → number r ≡ (read_file file).refusal → counts 0 0 ≡ counts (subtable_count (read file)) (pointer_size_in (read file))
  unfolding stream_counts read_counts read_file read_table
  by_refusal r e = go (eqb (refusal_of (stream_of file)) 0) refl e
    where
      go : (b : Bool) → eqb (refusal_of (stream_of file)) 0 ≡ b →
          number r ≡ (when b then read_table (joined (length file / 512) file) else answer (refusal_of (stream_of file)) (replicate 3344 0)).refusal →
          counts 0 0 ≡ counts (subtable_count (read file)) (pointer_size_in (read file))
      go true h f = let k : stream_counts (joined (length file / 512) file) ≡ counts 0 0 = rw (← f, not_zero r) in sym k ∙ file-counts file (eqb-true _ _ h)
      go false h f = refused-counts file (number r) f (number-nonzero r)

pub ruleset section_laws = (by_section, by_refusal)
