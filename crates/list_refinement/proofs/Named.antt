-- In a section that was read, a subtable names one of the tables and a bit range one of the registers.
use Prim.Native.Nat.{ℕ, zero, suc, ◌<◌}
use mathlib.Core.Path.{◌≡◌, refl, ap, subst}
use mathlib.Core.Bool.{true}
use mathlib.Core.List.{List, [], ◌∷◌}
use lib.ListN.{length}
use lib.Dec.{ltb}
use borrow.Author.Tests.{ltb-true}
use Rattle.definition.specs.Ast.{BitRange, Subtable, Header, Section}
use Rattle.definition.specs.SectionFile.{Parsed, parsed, refused, Read, on, naming, index, entries, register, bit_range, table, subtable, header, lists, read_section, stream_of, read}
use Rattle.list_refinement.specs.Encoding.{Each}
use Rattle.list_refinement.proofs.Settled.{each_at}
use Rattle.list_refinement.proofs.FromSection.{TablesNamed}
use Rattle.definition_guarantee.proofs.Readings.{Reading, Reads, then_reads, bind, returns, anything, passed, passes, reads-require}

reads-naming : (count v : ℕ) → Reads (λ n. n < count) (naming count v)
unfolding naming
reads-naming count v = record { reads = λ s. then_reads (λ _. ltb v count ≡ true) (λ n. n < count) _ _ ((reads-require (ltb v count) _).reads s) (λ _ h. returns v (ltb-true v count h)) }

reads-index : (count : ℕ) → Reads (λ n. n < count) (index count)
reads-index count = passed _ _ (λ v. reads-naming count v)

module _ (names : ℕ) where
  reads-entries : {A : Type 0} (P : A → Type 0) (entry : ℕ → Read A) (taken : List ℕ) (n : ℕ) → ((own : ℕ) → Reads P (entry own))
      → Reads (λ xs. Each P xs × (length xs ≡ n)) (entries names entry taken n)
  unfolding entries
  reads-entries P entry taken zero h = returns [] (tt, refl)
  reads-entries P entry taken (suc n) h =
      passed _ _ (λ own. passes _ _ (bind _ _ (h own)
      (λ x p. bind _ _ (reads-entries P entry (own ∷ taken) n h) (λ xs q. returns (x ∷ xs) ((p, q.0), ap suc q.1)))))

  -- so many of anything
  counted : {A : Type 0} (entry : ℕ → Read A) (taken : List ℕ) (n : ℕ) → Reads (λ xs. Each (λ _. Unit {0}) xs × (length xs ≡ n)) (entries names entry taken n)
  counted entry taken n = reads-entries (λ _. Unit {0}) entry taken n (λ own. anything (entry own))

  reads-bit_range : (count own : ℕ) → Reads (λ (x : BitRange). x.register < count) (bit_range names count own)
  unfolding bit_range
  reads-bit_range count own = bind _ _ (reads-index count) (λ r p. passed _ _ (λ from. passed _ _ (λ bits. returns _ p)))

  reads-subtable : (count own : ℕ) → Reads (λ (x : Subtable). x.table < count) (subtable names count own)
  unfolding subtable
  reads-subtable count own = bind _ _ (reads-index count) (λ t p. returns _ p)

pub record SectionNamed (sec : Section) : Type 0 where
  pub bit_ranges : Each (λ (x : BitRange). x.register < length sec.registers) sec.bit_ranges
  pub subtables : Each (λ (x : Subtable). x.table < length sec.tables) sec.subtables

reads-lists : (h : Header) → Reads SectionNamed (lists h)
unfolding lists
reads-lists h =
    let n = h.names in
    passed _ _ λ spelt. passed _ _ λ spaces.
    bind _ _ (counted n (register n) _ h.registers) λ registers p.
    bind _ _ (reads-entries n _ _ _ _ (reads-bit_range n h.registers)) λ bit_ranges q.
    bind _ _ (counted n (table n) _ h.tables) λ tables r.
    passed _ _ λ user_ops. passed _ _ λ macros. passed _ _ λ others. passed _ _ λ fields.
    bind _ _ (reads-entries n _ _ _ _ (reads-subtable n h.tables)) λ subtables u.
    passed _ _ λ statements.
    passes _ _ (returns _ (record { bit_ranges = rw p.1 q.0; subtables = rw r.1 u.0 }))

reads_section : Reads SectionNamed read_section
unfolding read_section
reads_section = passed header lists (λ h. reads-lists h)

pub section_named : (bytes rest : List ℕ) (sec : Section) → read bytes ≡ parsed sec rest → SectionNamed sec
unfolding read on
section_named bytes rest sec h = go (stream_of bytes) h
  where
    held : (x : Parsed Section) → Reading SectionNamed x → x ≡ parsed sec rest → SectionNamed sec
    held (parsed a s) w e = let d : a ≡ sec = cc in subst SectionNamed d w
    held (refused r) w e = cc

    go : (x : Parsed (List ℕ)) → on x (λ stream _. read_section stream) ≡ parsed sec rest → SectionNamed sec
    go (parsed stream s) e = held (read_section stream) (reads_section.reads stream) e
    go (refused r) e = cc

pub tables-named : (sec : Section) → SectionNamed sec → TablesNamed sec
tables-named sec w = record { table = λ i x e. each_at (λ (x : Subtable). x.table < length sec.tables) sec.subtables i x w.subtables e }
