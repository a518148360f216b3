-- One law for each way out of the functions that read a section.
use mathlib.Core.Path.{◌≡◌, sym}
use mathlib.Core.Bool.{false}
use mathlib.Core.List.{List, ◌++◌}
use Prim.Native.Nat.{ℕ, ◌*◌, ◌/◌, ◌≤◌}
use lib.ListN.{length, take}
use lib.Dec.{eqb}
use borrow.Author.Tests.{ne_eqb}
use Rattle.std.specs.Prelude.{Result, Ok, Err, IfOk}
use Rattle.codes.specs.declared.refusal.Refusal.{Refusal}
use Rattle.codes.specs.Refusals.{number}
use Rattle.codes.proofs.Numbers.{number-nonzero}
use Rattle.definition.specs.SectionFile.{stream_of}
use Rattle.file_blocks.specs.Blocks.{refusal_of, joined}
use Rattle.file_section.specs.Stream.{answer}
use Rattle.file_refinement.proofs.FileTheorem.{one_block, checked_room, front, front_room}
use Rattle.resolve_file.specs.Sections.{read_table, GivenSection, read_file}

pub not_zero : (r : Refusal) → eqb (number r) 0 ≡ false
not_zero r = ne_eqb (number r) 0 (number-nonzero r)

pub blocks_front : (file rest buffer : List ℕ) → buffer ≡ joined (length file / 512) file ++ rest → take (length file / 512 * 510) buffer ≡ joined (length file / 512) file
blocks_front file rest buffer e = rw (e, front file rest)

pub room : (file : List ℕ) → 0 ≡ refusal_of (stream_of file) → length file / 512 * 510 ≤ 65280
room file p = checked_room file (sym p)

-- what is read of a file whose blocks are right, and of another
pub given : (file stream table : List ℕ) → 0 ≡ refusal_of (stream_of file) → stream ≡ joined (length file / 512) file → answer 0 table ≡ read_table (joined (length file / 512) file) → GivenSection file stream table
unfolding read_file
given file stream table p e f = record { stream_is = e; read = rw (← p) f }

pub given_one : (file stream table : List ℕ) → 0 ≡ refusal_of (stream_of file) → length file ≡ 512 → stream ≡ take 510 file → answer 0 table ≡ read_table (take 510 file) → GivenSection file stream table
given_one file stream table p l e f = given file stream table p (rw (← one_block file l) at e) (rw (← one_block file l) at f)

pub refused_stream : (file : List ℕ) (n : ℕ) → 0 ≡ refusal_of (stream_of file) → n ≡ (read_table (joined (length file / 512) file)).refusal → n ≡ (read_file file).refusal
unfolding read_file
refused_stream file n p e = rw (← p) e

pub refused_one : (file : List ℕ) (n : ℕ) → 0 ≡ refusal_of (stream_of file) → length file ≡ 512 → n ≡ (read_table (take 510 file)).refusal → n ≡ (read_file file).refusal
refused_one file n p l e = refused_stream file n p (rw (← one_block file l) at e)

pub refused_blocks : (file : List ℕ) (r : Refusal) → number r ≡ refusal_of (stream_of file) → number r ≡ (read_file file).refusal
unfolding read_file
refused_blocks file r e = rw (← e, not_zero r)

pub if_ok : {A E : Type 0} {P Q : A → Type 0} (r : Result A E) → ((a : A) → P a → Q a) → IfOk r P → IfOk r Q
if_ok (Ok a) f h = f a h
if_ok (Err e) f h = h

pub ruleset blocks_laws = (front_room, blocks_front)

pub ruleset section_laws = (room, one_block, refused_stream, refused_one, refused_blocks)
