-- The counts that the words give are those of the section that the definition reads.
use Prim.Native.Nat.{ℕ, ◌/◌, ◌≤◌}
use mathlib.Core.Path.{◌≡◌, refl, ◌∙◌, subst}
use mathlib.Core.Bool.{true}
use mathlib.Core.List.{List}
use native.Mathlib.Omega.{arith}
use lib.ListN.{length, replicate}
use lib.Dec.{eqb}
use borrow.Author.Tests.{eq-eqb}
use Rattle.definition.specs.Refusals.{refusal_number}
use Rattle.definition.specs.Ast.{Section}
use Rattle.definition.specs.SectionFile.{Parsed, parsed, refused, on, stream_of, read_section, read}
use Rattle.definition.specs.ActionList.{when_read}
use Rattle.definition.specs.Passing.{subtable_count, pointer_size_in}
use Rattle.file_blocks.specs.Blocks.{refusal_of, joined}
use Rattle.file_section.specs.Stream.{read_stream}
use Rattle.file_refinement.proofs.Agree.{refusal_bad}
use Rattle.file_refinement.proofs.FileTheorem.{no_table, stream_refusal, stream_holds, file_stream}
use Rattle.resolve_refinement.proofs.Start.{pointer_is}
use Rattle.resolve_counts.specs.Counts.{counts, table_counts, read_counts, stream_counts}

stream_counts_lem : (x : List ℕ) → length x ≤ 65280 → (y : Parsed Section) → read_section x ≡ y → stream_counts x ≡ counts (subtable_count y) (pointer_size_in y)
unfolding stream_counts read_counts table_counts refusal_of no_table subtable_count pointer_size_in when_read
stream_counts_lem x few (refused r) q =
    let n : (read_stream x (replicate 3344 0)).refusal ≡ refusal_number r = stream_refusal x (omega arith) ∙ rw q in
    rw (n, refusal_bad r)
stream_counts_lem x few (parsed sec left) q =
    let n : (read_stream x (replicate 3344 0)).refusal ≡ 0 = stream_refusal x (omega arith) ∙ rw q in
    let holds = stream_holds x (omega arith) sec left q in
    rw (n, pointer_is x (read_stream x (replicate 3344 0)).table sec holds, ← holds.subtables.count)

module _ (file : List ℕ) where
  pub file-counts : refusal_of (stream_of file) ≡ 0 → stream_counts (joined (length file / 512) file) ≡ counts (subtable_count (read file)) (pointer_size_in (read file))
  unfolding read on
  file-counts h = go (stream_of file) refl h
    where
      go : (p : Parsed (List ℕ)) → stream_of file ≡ p → refusal_of p ≡ 0 → stream_counts (joined (length file / 512) file) ≡ counts (subtable_count (on p (λ stream _. read_section stream))) (pointer_size_in (on p (λ stream _. read_section stream)))
      go (parsed x rest) e h = let f = file_stream file x rest e in subst (λ (z : List ℕ). stream_counts z ≡ counts (subtable_count (read_section x)) (pointer_size_in (read_section x))) f.0 (stream_counts_lem x f.1 (read_section x) refl)
      go (refused r) e h = unfold refusal_of in (let k : eqb (refusal_number r) 0 ≡ true = eq-eqb (refusal_number r) 0 h in let j = refusal_bad r in let z : ◌≡◌ {A = ℕ} 0 1 = cc in absurd (omega arith))

  pub refused-counts : (bad : ℕ) → bad ≡ refusal_of (stream_of file) → (bad ≡ 0 → ⊥) → counts 0 0 ≡ counts (subtable_count (read file)) (pointer_size_in (read file))
  unfolding read on
  refused-counts bad p h = go (stream_of file) (λ q. h (p ∙ q))
    where
      go : (p : Parsed (List ℕ)) → (refusal_of p ≡ 0 → ⊥) → counts 0 0 ≡ counts (subtable_count (on p (λ stream _. read_section stream))) (pointer_size_in (on p (λ stream _. read_section stream)))
      go (parsed x rest) h = absurd (h (unfold refusal_of in refl))
      go (refused r) h = unfold subtable_count pointer_size_in when_read in refl
