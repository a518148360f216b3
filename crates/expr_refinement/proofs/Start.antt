-- A scope at its start: the table gives the section's fields and subtables, and there is no local.
use Prim.Native.Nat.{ℕ, zero, suc, ◌+◌, ◌-◌, ◌*◌, ◌/◌, ◌%◌, ◌<◌}
use mathlib.Core.Path.{◌≡◌, refl, ◌∙◌}
use mathlib.Core.Bool.{Bool, true, false}
use mathlib.Core.List.{List, [], ◌∷◌, ◌++◌, map}
use mathlib.Core.Option.{Option, none, some}
use native.Mathlib.Omega.{arith}
use lib.ListN.{get_or, replicate}
use lib.Dec.{eqb}
use borrow.Author.Tests.{ne_eqb}
use Rattle.prelude.specs.Base as definition
use Rattle.prelude.specs.Base.{◌or◌, and_then, first, position, when◌then◌else◌}
use Rattle.definition.specs.Value.{Kind, kind_number, local}
use Rattle.definition.specs.Ast.{Field, Subtable, Section}
use Rattle.definition.specs.Scope.{find, locals, section_scope}
use Rattle.definition.specs.ActionList.{or_none}
use Rattle.definition.proofs.Openers.{base_opens}
use Rattle.file_refinement.specs.Holds.{Holds, local_word}
use Rattle.expr_scope.specs.Smalls.{unit, small_of, small}
use Rattle.expr_scope.specs.Outcomes.{Found}
use Rattle.expr_scope.specs.Scopes.{own_of, own_local, tmp_of, tmp_local, or_tmp, lookup_local}
use Rattle.expr_refinement.specs.Encoding.{enc_f}

-- in the words of a scope that begins, every small number is 0
zero_word_lem : (n i : ℕ) → ◌≡◌ {A = ℕ} (get_or (replicate n 0) i 0) 0
zero_word_lem zero i = refl
zero_word_lem (suc n) zero = refl
zero_word_lem (suc n) (suc i) = zero_word_lem n i

zero_place : (k : ℕ) → k < 6 → small_of 0 k ≡ 0
unfolding small_of unit
zero_place zero h = refl
zero_place (suc zero) h = refl
zero_place (suc (suc zero)) h = refl
zero_place (suc (suc (suc zero))) h = refl
zero_place (suc (suc (suc (suc zero)))) h = refl
zero_place (suc (suc (suc (suc (suc zero))))) h = refl
zero_place (suc (suc (suc (suc (suc (suc k)))))) h = absurd (omega arith)

pub none_small : (n i : ℕ) → small (replicate n 0) i ≡ 0
unfolding small
none_small n i = rw (zero_word_lem n (64 + i / 6)) (zero_place (i % 6) (omega arith))

pub none_local : (name : ℕ) → tmp_local (replicate 406 0) name ≡ Found.Nothing
unfolding tmp_local tmp_of
none_local name = rw (none_small 406 (name % 1024))

pub find_append : {A : Type 0} (n : ℕ) (xs ys : List (ℕ × A)) → find n (xs ++ ys) ≡ find n xs or find n ys
unfolding find first ◌or◌
find_append n [] ys = refl
find_append {A} n (x ∷ xs) ys = go (definition.when◌then◌else◌ (eqb n x.0) (some x.1) none) (find_append n xs ys)
  where
    go : (o : Option A) → find n (xs ++ ys) ≡ find n xs or find n ys → o or find n (xs ++ ys) ≡ (o or find n xs) or find n ys
    go (some a) h = refl
    go none h = h

find-locals : (k : Kind) (n i : ℕ) (ns : List ℕ) → find n (locals k i ns) ≡ and_then (position (eqb n) i ns) (λ j. some (local k j))
unfolding find first locals position base_opens
find-locals k n i [] = refl
find-locals k n i (x ∷ xs) = go (eqb n x) (find-locals k n (suc i) xs)
  where
    go : (b : Bool) → find n (locals k (suc i) xs) ≡ and_then (position (eqb n) (suc i) xs) (λ j. some (local k j))
        → (definition.when◌then◌else◌ b (some (local k i)) none) or find n (locals k (suc i) xs) ≡ and_then (definition.when◌then◌else◌ b (some i) (position (eqb n) (suc i) xs)) (λ j. some (local k j))
    go true h = refl
    go false h = h

own_word : (a b : Option ℕ) → own_of (local_word a b) ≡ enc_f (and_then a (λ j. some (local Kind.Field j)) or and_then b (λ j. some (local Kind.Subtable j)))
unfolding own_of local_word enc_f base_opens kind_number or_none
own_word (some i) b =
    let p : (1 + 2 * i) % 2 ≡ 1 = omega arith in
    let q : (1 + 2 * i) / 2 ≡ i = omega arith in
    rw (ne_eqb (1 + 2 * i) 0 (λ z. omega arith), p, q)
own_word none (some i) =
    let p : (2 + 2 * i) % 2 ≡ 0 = omega arith in
    let q : (2 + 2 * i) / 2 - 1 ≡ i = omega arith in
    rw (ne_eqb (2 + 2 * i) 0 (λ z. omega arith), p, q)
own_word none none = refl

module _ (s t : List ℕ) (sec : Section) (holds : Holds s t sec) (name : ℕ) (known : name < 1024) where
  pub own_is : own_local t name ≡ enc_f (find name (section_scope sec).mapping)
  unfolding own_local section_scope
  own_is =
      let p : name % 1024 ≡ name = omega arith in
      rw (
        p,
        holds.locals name known,
        find_append name (locals Kind.Field 0 (map (λ (x : Field). x.name) sec.fields)) (locals Kind.Subtable 0 (map (λ (x : Subtable). x.name) sec.subtables)),
        find-locals Kind.Field name 0 (map (λ (x : Field). x.name) sec.fields),
        find-locals Kind.Subtable name 0 (map (λ (x : Subtable). x.name) sec.subtables),
      )
      (own_word _ _)

  -- no local is declared
  pub start_locals : lookup_local t (replicate 406 0) true name ≡ enc_f (find name (section_scope sec).mapping)
  unfolding lookup_local
  start_locals = go (own_local t name) own_is
    where
      go : (x : Found) → x ≡ enc_f (find name (section_scope sec).mapping) → or_tmp x (replicate 406 0) name ≡ enc_f (find name (section_scope sec).mapping)
      go (Found.Is v) h = unfold or_tmp in h
      go Found.Nothing h = unfold or_tmp in none_local name ∙ h
