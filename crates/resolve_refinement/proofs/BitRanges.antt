-- In a section that was read, a bit range names one of the registers and ends within 16,384 bits.
use Prim.Native.Nat.{ℕ, zero, suc, ◌+◌, ◌≤◌, ◌<◌}
use mathlib.Core.Path.{◌≡◌, subst}
use mathlib.Core.List.{List, [], ◌∷◌}
use native.Mathlib.Omega.{arith}
use lib.ListN.{length}
use Rattle.definition.specs.Ast.{BitRange, Header, Section}
use Rattle.definition.specs.SectionFile.{Parsed, parsed, refused, Read, on, entries, bit_range, header, lists, read_section, stream_of, read}
use Rattle.list_refinement.specs.Encoding.{Each}
use Rattle.list_refinement.proofs.Settled.{each_at}
use Rattle.list_refinement.proofs.Named.{section_named}
use Rattle.definition_guarantee.proofs.Readings.{Reading, Reads, bind, returns, passed, passes, reads-bits}
use Rattle.expr_refinement.specs.Encoding.{BitRangesFit}

abbrev Fits : BitRange → Type 0
Fits x = x.first_bit + x.bit_count ≤ 16384

module _ (names : ℕ) where
  reads-entries : {A : Type 0} (P : A → Type 0) (entry : ℕ → Read A) (taken : List ℕ) (n : ℕ) → ((own : ℕ) → Reads P (entry own)) → Reads (λ xs. Each P xs) (entries names entry taken n)
  unfolding entries
  reads-entries P entry taken zero h = returns [] tt
  reads-entries P entry taken (suc n) h = passed _ _ (λ own. passes _ _ (bind _ _ (h own) (λ x p. bind _ _ (reads-entries P entry (own ∷ taken) n h) (λ xs q. returns (x ∷ xs) (p, q)))))

  reads_range : (count own : ℕ) → Reads Fits (bit_range names count own)
  unfolding bit_range
  reads_range count own = passed _ _ (λ r. bind _ _ reads-bits (λ from p. bind _ _ reads-bits (λ bits q. returns _ (omega (arith, p, q)))))

record RangesFit (sec : Section) : Type 0 where
  fit : Each Fits sec.bit_ranges

reads-lists : (h : Header) → Reads RangesFit (lists h)
unfolding lists
reads-lists h =
    let n = h.names in
    passed _ _ λ spelt. passed _ _ λ spaces. passed _ _ λ registers.
    bind _ _ (reads-entries n Fits _ _ _ (reads_range n h.registers)) λ bit_ranges q.
    passed _ _ λ tables. passed _ _ λ user_ops. passed _ _ λ macros. passed _ _ λ others. passed _ _ λ fields. passed _ _ λ subtables. passed _ _ λ statements.
    passes _ _ (returns _ (record { fit = q }))

reads_section : Reads RangesFit read_section
unfolding read_section
reads_section = passed header lists (λ h. reads-lists h)

ranges_fit : (bytes rest : List ℕ) (sec : Section) → read bytes ≡ parsed sec rest → RangesFit sec
unfolding read on
ranges_fit bytes rest sec h = go (stream_of bytes) h
  where
    held : (x : Parsed Section) → Reading RangesFit x → x ≡ parsed sec rest → RangesFit sec
    held (parsed a s) w e = let d : a ≡ sec = cc in subst RangesFit d w
    held (refused r) w e = let z : ◌≡◌ {A = ℕ} 0 1 = cc in absurd (omega arith)

    go : (x : Parsed (List ℕ)) → on x (λ stream _. read_section stream) ≡ parsed sec rest → RangesFit sec
    go (parsed stream s) e = held (read_section stream) (reads_section.reads stream) e
    go (refused r) e = let z : ◌≡◌ {A = ℕ} 0 1 = cc in absurd (omega arith)

pub bit_ranges_fit : (bytes rest : List ℕ) (sec : Section) → read bytes ≡ parsed sec rest → BitRangesFit sec
bit_ranges_fit bytes rest sec h = record {
  register = λ i b e. each_at (λ (x : BitRange). x.register < length sec.registers) sec.bit_ranges i b (section_named bytes rest sec h).bit_ranges e;
  bits = λ i b e. each_at Fits sec.bit_ranges i b (ranges_fit bytes rest sec h).fit e;
}
