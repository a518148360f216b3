-- The spellings are those of the section that the stream and the table hold.
use Prim.Native.Nat.{ℕ, zero, suc, ◌+◌, ◌*◌, ◌%◌, ◌<◌}
use mathlib.Core.Path.{◌≡◌, refl, ◌∙◌, ap}
use mathlib.Core.List.{List, [], ◌∷◌}
use mathlib.Core.Option.{some}
use native.Mathlib.Omega.{arith}
use lib.ListN.{length, get_or, get_elem?}
use Rattle.access.specs.Le.{le16}
use Rattle.definition.specs.Ast.{Register, Field, Subtable, Section}
use Rattle.list_values.specs.Sizes.{entry}
use Rattle.file_refinement.specs.Holds.{Holds, Listed, register_at, name_only, field_at, subtable_at}
use Rattle.listing_names.specs.Names.{name_of, register_name, user_op_name, field_name, subtable_name}

below : {A : Type 0} (xs : List A) (i : ℕ) (x : A) → get_elem? xs i ≡ some x → i < length xs
below [] i x e = let z : ◌≡◌ {A = ℕ} 0 1 = cc in absurd (omega arith)
below (y ∷ ys) zero x e = omega arith
below (y ∷ ys) (suc i) x e = let h = below ys i x e in omega arith

-- the name of entry i of a list
listed_name : {A : Type 0} (s t : List ℕ) (k wide : ℕ) (f : ℕ → ℕ → A) (own : A → ℕ) (xs : List A) → Listed s t k wide f xs → ((n q : ℕ) → own (f n q) ≡ n) → (i : ℕ) (x : A) → get_elem? xs i ≡ some x → own x ≡ le16 s (get_or t (3328 + k) 0 + (2 + wide) * i)
listed_name s t k wide f own xs l named i x e =
    let at = get_or t (3328 + k) 0 + (2 + wide) * i in
    let p = l.element i (below xs i x e) in
    let q : x ≡ f (le16 s at) (at + 2) = cc in
    ap own q ∙ named (le16 s at) (at + 2)

module _ (s t : List ℕ) (sec : Section) (h : Holds s t sec) (i : ℕ) where
  pub name_is : i < length sec.names → get_elem? sec.names i ≡ some (name_of s t i)
  name_is k = h.spelling i k

  pub register_name_lem : (x : Register) → get_elem? sec.registers i ≡ some x → register_name s t i ≡ name_of s t x.name
  unfolding entry
  register_name_lem x e =
      let n = listed_name s t 1 2 (register_at s) (λ r. r.name) sec.registers h.registers (λ n q. unfold register_at in refl) i x e in
      let k = below sec.registers i x e in
      let c = h.registers.count in
      let m = h.limits.registers in
      let w : i % 65536 * 4 % 1048576 ≡ 4 * i = omega arith in
      rw (n, w)

  pub user-op_name : (x : ℕ) → get_elem? sec.user_ops i ≡ some x → user_op_name s t i ≡ name_of s t x
  unfolding entry
  user-op_name x e =
      let n = listed_name s t 4 0 name_only (λ r. r) sec.user_ops h.user_ops (λ n q. unfold name_only in refl) i x e in
      let k = below sec.user_ops i x e in
      let c = h.user_ops.count in
      let m = h.limits.user_ops in
      let w : i % 65536 * 2 % 1048576 ≡ 2 * i = omega arith in
      rw (n, w)

  pub field_name_lem : (x : Field) → get_elem? sec.fields i ≡ some x → field_name s t i ≡ name_of s t x.name
  unfolding entry
  field_name_lem x e =
      let n = listed_name s t 7 2 (field_at s) (λ r. r.name) sec.fields h.fields (λ n q. unfold field_at in refl) i x e in
      let k = below sec.fields i x e in
      let c = h.fields.count in
      let m = h.limits.fields in
      let w : i % 65536 * 4 % 1048576 ≡ 4 * i = omega arith in
      rw (n, w)

  pub subtable_name_lem : (x : Subtable) → get_elem? sec.subtables i ≡ some x → subtable_name s t i ≡ name_of s t x.name
  unfolding entry
  subtable_name_lem x e =
      let n = listed_name s t 8 2 (subtable_at s) (λ r. r.name) sec.subtables h.subtables (λ n q. unfold subtable_at in refl) i x e in
      let k = below sec.subtables i x e in
      let c = h.subtables.count in
      let m = h.limits.subtables in
      let w : i % 65536 * 4 % 1048576 ≡ 4 * i = omega arith in
      rw (n, w)
