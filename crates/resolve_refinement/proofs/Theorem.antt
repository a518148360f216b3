-- THE THEOREM: what a file is resolved to by the words is what the definition resolves it to.
use Prim.Native.Nat.{ℕ, ◌/◌, ◌^◌, ◌≤◌, ◌<◌}
use mathlib.Core.Path.{◌≡◌, refl, ◌∙◌, ap, subst}
use mathlib.Core.Bool.{Bool, true, false}
use mathlib.Core.List.{List}
use mathlib.Core.Option.{none}
use native.Mathlib.Omega.{arith}
use lib.ListN.{length, replicate}
use lib.Dec.{eqb}
use borrow.Author.Tests.{eq-eqb}
use Rattle.prelude.specs.Base.{or_else, when◌then◌else◌}
use Rattle.definition.specs.Refusals.{Refusal, refusal_number}
use Rattle.definition.specs.Ast.{Section}
use Rattle.definition.specs.SectionFile.{Parsed, parsed, refused, on, stream_of, read_section, read}
use Rattle.definition.specs.ActionList as d
use Rattle.definition.specs.ActionList.{or_none}
use Rattle.definition_guarantee.proofs.Limits.{read_within}
use Rattle.file_blocks.specs.Blocks.{refusal_of, joined}
use Rattle.file_section.specs.Stream.{read_stream}
use Rattle.file_refinement.proofs.Agree.{refusal_bad}
use Rattle.file_refinement.proofs.FileTheorem.{no_table, stream_refusal, stream_holds, file_stream}
use Rattle.list_refinement.proofs.Named.{section_named, tables-named}
use Rattle.resolve_answer.specs.declared.answer.Answer.{Answer as WordAnswer}
use Rattle.resolve_answer.specs.Answers as answers
use Rattle.resolve_answer.specs.Answers.{Resolved, resolved_to}
use Rattle.resolve_file.specs.Files as w
use Rattle.resolve_file.specs.Files.{resolve_stream, resolve_file}
use Rattle.stmt_refinement.proofs.Statements.{statements_follow}
use Rattle.resolve_refinement.specs.Answers.{as_answer}
use Rattle.resolve_refinement.proofs.Answers.{refused_is}
use Rattle.resolve_refinement.proofs.BitRanges.{bit_ranges_fit}
use Rattle.resolve_refinement.proofs.Start.{room_of, front_of, tail_of, lent_length}
use Rattle.resolve_refinement.proofs.Sections.{Lengths, section_is}
use Rattle.resolve_refinement.proofs.Walking.{section_walks}

module _ (file a m : List ℕ) (short : length a < 2 ^ 60) (shorter : length m < 2 ^ 60) where
  refuses : (x : Resolved) (r : Refusal) (n : ℕ) → n ≡ refusal_number r → as_answer (when eqb n 0 then x else answers.refused a m n 65535 0) ≡ d.refusal (length a) (length m) r none 0
  unfolding or_none or_else
  refuses x r n h = rw (h, refusal_bad r) (refused_is a m (length a) (length m) r none 0 refl refl)

  stream_is : (x rest : List ℕ) → stream_of file ≡ parsed x rest → length x ≤ 65280 → (y : Parsed Section) → read_section x ≡ y → Lengths (length a) (length m) (resolve_stream x a m)
      → as_answer (resolve_stream x a m) ≡ d.resolve_read (length a) (length m) y
  unfolding resolve_stream w.resolve_read d.resolve_read d.when_read refusal_of no_table
  stream_is x rest p few (refused r) q l = refuses _ r (read_stream x (replicate 3344 0)).refusal (stream_refusal x (omega arith) ∙ rw q)
  stream_is x rest p few (parsed sec left) q l =
      let n : (read_stream x (replicate 3344 0)).refusal ≡ 0 = stream_refusal x (omega arith) ∙ rw q in
      let is : read file ≡ parsed sec left = unfold read on in rw (p, q) in
      let holds = stream_holds x (omega arith) sec left q in
      let within = read_within file left sec is in
      let tables = tables-named sec (section_named file left sec is) in
      go (eqb (read_stream x (replicate 3344 0)).refusal 0) (eq-eqb _ 0 n) (λ k. section_is x (read_stream x (replicate 3344 0)).table sec holds within tables a m short shorter (λ room. section_walks x (read_stream x (replicate 3344 0)).table sec holds within tables (bit_ranges_fit file left sec is) few a m room (statements_follow x (read_stream x (replicate 3344 0)).table (room_of sec a m) (front_of sec a) (tail_of sec a) m 0 (omega (arith, lent_length sec a room)) within)) k) l
    where
      t : List ℕ
      t = (read_stream x (replicate 3344 0)).table

      go : (b : Bool) → b ≡ true → (Lengths (length a) (length m) (w.resolve_section x t a m) → as_answer (w.resolve_section x t a m) ≡ d.resolve_read (length a) (length m) (parsed sec left))
          → Lengths (length a) (length m) (when b then w.resolve_section x t a m else answers.refused a m (read_stream x (replicate 3344 0)).refusal 65535 0)
          → as_answer (when b then w.resolve_section x t a m else answers.refused a m (read_stream x (replicate 3344 0)).refusal 65535 0) ≡ d.resolve_read (length a) (length m) (parsed sec left)
      go true h f l = f l
      go false h f l = let z : ◌≡◌ {A = ℕ} 0 1 = cc in absurd (omega arith)

  joined_is : (x rest : List ℕ) → stream_of file ≡ parsed x rest → Lengths (length a) (length m) (when eqb (refusal_of (parsed x rest)) 0 then resolve_stream (joined (length file / 512) file) a m else answers.refused a m (refusal_of (parsed x rest)) 65535 0)
      → as_answer (when eqb (refusal_of (parsed x rest)) 0 then resolve_stream (joined (length file / 512) file) a m else answers.refused a m (refusal_of (parsed x rest)) 65535 0) ≡ d.resolve_read (length a) (length m) (read_section x)
  unfolding refusal_of
  joined_is x rest e l =
      let f = file_stream file x rest e in
      subst (λ (z : List ℕ). Lengths (length a) (length m) (resolve_stream z a m) → as_answer (resolve_stream z a m) ≡ d.resolve_read (length a) (length m) (read_section x)) f.0 (stream_is x rest e f.1 (read_section x) refl) l

  -- For every file and all lent lists: the twelve numbers and every word of both lists are the definition's.
  pub resolved_is : Lengths (length a) (length m) (resolve_file file a m) → as_answer (resolve_file file a m) ≡ d.resolve file (length a) (length m)
  unfolding resolve_file d.resolve read on
  resolved_is l = go (stream_of file) refl l
    where
      go : (p : Parsed (List ℕ)) → stream_of file ≡ p → Lengths (length a) (length m) (when eqb (refusal_of p) 0 then resolve_stream (joined (length file / 512) file) a m else answers.refused a m (refusal_of p) 65535 0)
          → as_answer (when eqb (refusal_of p) 0 then resolve_stream (joined (length file / 512) file) a m else answers.refused a m (refusal_of p) 65535 0) ≡ d.resolve_read (length a) (length m) (on p (λ stream _. read_section stream))
      go (parsed x rest) e l = joined_is x rest e l
      go (refused r) e l = unfold refusal_of d.resolve_read d.when_read in refuses _ r (refusal_number r) refl

  -- As a contract has it: of what a call leaves in the lists it knows that each is as long as it was.
  pub answered_is : (r : WordAnswer) (b n : List ℕ) → resolved_to r b n ≡ resolve_file file a m → length b ≡ length a → length n ≡ length m → as_answer (resolved_to r b n) ≡ d.resolve file (length a) (length m)
  answered_is r b n h k l = ap as_answer h ∙ resolved_is (subst (Lengths (length a) (length m)) h (k, l))
