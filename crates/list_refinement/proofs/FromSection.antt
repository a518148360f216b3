-- The sizes that the stream and the table hold, where they hold the section.
use Rattle.std.proofs.lemmas.Bool.Decides.{nat_tests}
use Prim.Native.Nat.{ℕ, ◌+◌, ◌*◌, ◌%◌, ◌≤◌, ◌<◌}
use mathlib.Core.Path.{◌≡◌, refl, sym, ◌∙◌}
use mathlib.Core.Bool.{Bool, true, false}
use mathlib.Core.List.{List}
use mathlib.Core.Option.{Option, none, some}
use native.Mathlib.Omega.{arith}
use lib.ListN.{length, get_or, get_elem?}
use lib.Dec.{eqb}
use borrow.Author.Tests.{eqb-true}
use Rattle.prelude.specs.Base as definition
use Rattle.prelude.specs.Base.{or_else, and_then}
use Rattle.definition.specs.Ast.{Register, Field, Subtable, Section}
use Rattle.definition.specs.Sizes as d
use Rattle.definition.specs.ActionList.{or_none}
use Rattle.definition.proofs.Openers.{base_opens}
use Rattle.access.specs.Le.{le16}
use Rattle.list_values.specs.Sizes.{entry, list_size, export_size_of}
use Rattle.file_refinement.specs.Holds.{absent_at, register_at, table_at, field_at, subtable_at, Holds}
use Rattle.definition_guarantee.proofs.Layouts.{SmallSection}
use Rattle.definition_guarantee.proofs.Kept.{option_small}
use Rattle.list_refinement.specs.Encoding.{SizesHold}

pub absent-word : (s : List ℕ) (p : ℕ) → or_none (absent_at s p) ≡ le16 s p
unfolding or_none base_opens
absent-word s p = go (eqb (le16 s p) 65535) refl
  where
    go : (b : Bool) → eqb (le16 s p) 65535 ≡ b → or_else 65535 (definition.when◌then◌else◌ b none (some (le16 s p))) ≡ le16 s p
    go true e = sym (eqb-true (le16 s p) 65535 e)
    go false e = refl

-- entry i of a list whose entries are a name and a size
size_at_lem : (s t : List ℕ) (k i n : ℕ) → k < 16 → i ≤ n → n ≤ 1024 → list_size s t k i ≡ le16 s (get_or t (3328 + k) 0 + (2 + 2) * i + 2)
unfolding list_size entry
size_at_lem s t k i n h j l =
    let a : k % 16 ≡ k = omega arith in
    let b : i % 65536 ≡ i = omega arith in
    let c : (i * 4 + 2) % 1048576 ≡ i * 4 + 2 = omega arith in
    let e : get_or t (3328 + k) 0 + (i * 4 + 2) ≡ get_or t (3328 + k) 0 + (2 + 2) * i + 2 = omega arith in
    rw (a, b, c, e)

small_at : {A : Type 0} (x : Option A) (f : A → Option ℕ) → ((a : A) (n : ℕ) → x ≡ some a → f a ≡ some n → n < 65535)
    → or_else 0 (and_then x f) < 65535
unfolding and_then or_else
small_at x f h1 = grind (arith, nat_tests)

-- Each subtable names one of the tables.
pub record TablesNamed (sec : Section) : Type 0 where
  pub table : (i : ℕ) (x : Subtable) → get_elem? sec.subtables i ≡ some x → x.table < length sec.tables

module _ (s t : List ℕ) (sec : Section) (holds : Holds s t sec) (small : SmallSection sec) (named : TablesNamed sec) where
  register_at_lem : (i : ℕ) → i < length sec.registers → list_size s t 1 i
      ≡ or_none (and_then (get_elem? sec.registers i) λ (x : Register). some x.size)
  unfolding or_none or_else and_then register_at
  register_at_lem i h =
      let n = holds.registers.count in
      let l = holds.limits.registers in
      size_at_lem s t 1 i 1024 (omega arith) (omega arith) (omega arith) ∙ rw (holds.registers.element i h)

  field_at_lem : (i : ℕ) → i < length sec.fields → list_size s t 7 i ≡ or_none (and_then (get_elem? sec.fields i) λ (x : Field). x.size)
  unfolding and_then field_at
  field_at_lem i h =
      let n = holds.fields.count in
      let l = holds.limits.fields in
      size_at_lem s t 7 i 1024 (omega arith) (omega arith) (omega arith) ∙ rw (holds.fields.element i h) (sym (absent-word s _))

  export_at : (i : ℕ) → i < length sec.subtables → export_size_of s t i ≡ or_none (d.export_size_of sec i)
  unfolding export_size_of d.export_size_of and_then subtable_at table_at
  export_at i h =
      let n = holds.subtables.count in
      let l = holds.limits.subtables in
      let e = holds.subtables.element i h in
      let a = size_at_lem s t 8 i 1024 (omega arith) (omega arith) (omega arith) in
      let j = named.table i _ e in
      let m = holds.tables.count in
      let k = holds.limits.tables in
      rw (a, e, holds.tables.element _ j) (size_at_lem s t 3 _ 1024 (omega arith) (omega arith) (omega arith) ∙ sym (absent-word s _))

  pub sizes_hold_lem : SizesHold s t sec
  sizes_hold_lem = record {
    registers = register_at_lem;
    fields = field_at_lem;
    exports = export_at;
    registers_small = λ i. small_at (get_elem? sec.registers i) (λ (x : Register). some x.size)
        (λ x n e f. let q : x.size ≡ n = cc in let k = small.registers i x e in omega arith);
    fields_small = λ i. small_at (get_elem? sec.fields i) (λ (x : Field). x.size) (λ x n e f. small.fields i n x e f);
    exports_small = λ i. option_small (d.export_size_of sec i) (λ n e. small.exports i n e);
    pointer_small = small.pointer;
  }
