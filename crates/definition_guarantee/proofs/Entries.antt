-- Entries by name: what is found among them, and after one is put or added.
use Prim.Native.Nat.{ℕ}
use mathlib.Core.Path.{◌≡◌, refl, sym, ◌∙◌, subst}
use mathlib.Core.Bool.{Bool, true, false}
use mathlib.Core.List.{List, [], ◌∷◌, ◌++◌}
use mathlib.Core.Option.{none, some}
use lib.Dec.{eqb}
use Rattle.prelude.specs.Base.{when◌then◌else◌, ◌or◌, first}
use Rattle.definition.specs.Scope.{find, put_entry}
use Rattle.definition_guarantee.specs.Tests.{Each}
use Rattle.std.proofs.lemmas.Bool.{eqb-true, eqb-false}
use Rattle.definition_guarantee.proofs.Tests.{each_at, first_from, chosen, none_some}

pub find-each : {A : Type 0} (P : A → Type 0) (n : ℕ) (xs : List (ℕ × A)) (a : A) → Each (λ (p : ℕ × A). P p.1) xs → find n xs ≡ some a
    → P a
unfolding find
find-each {A} P n xs a h e =
    let q = first_from _ xs a e in
    subst P (chosen (eqb n q.1.0) q.1.1 a q.3) (each_at (λ (p : ℕ × A). P p.1) xs q.0 q.1 h q.2)

module _ {A : Type 0} (n : ℕ) (a : A) where
  -- two entries of different names may stand either way round
  either_way : (m : ℕ) (x : ℕ × A) (xs : List (ℕ × A)) → eqb n x.0 ≡ false → find m (x ∷ (n, a) ∷ xs) ≡ find m ((n, a) ∷ x ∷ xs)
  unfolding find first ◌or◌
  either_way m x xs h = go (eqb m x.0) refl (eqb m n) refl
    where
      go : (b : Bool) → eqb m x.0 ≡ b → (c : Bool) → eqb m n ≡ c
          → (when b then some x.1 else none) or (when c then some a else none) or find m xs
          ≡ (when c then some a else none) or (when b then some x.1 else none) or find m xs
      go true p true q = absurd (eqb-false n x.0 h (sym (eqb-true m n q) ∙ eqb-true m x.0 p))
      go true p false q = refl
      go false p true q = refl
      go false p false q = refl

  -- an entry behind another of its name is never found
  hidden : (m : ℕ) (x : ℕ × A) (xs : List (ℕ × A)) → eqb n x.0 ≡ true → find m ((n, a) ∷ xs) ≡ find m ((n, a) ∷ x ∷ xs)
  unfolding find first ◌or◌
  hidden m x xs h = rw (← eqb-true n x.0 h) (go (eqb m n))
    where
      go : (b : Bool) → (when b then some a else none) or find m xs ≡ (when b then some a else none) or (when b then some x.1 else none) or find m xs
      go true = refl
      go false = refl

  behind : (m : ℕ) (x : ℕ × A) (xs ys : List (ℕ × A)) → find m xs ≡ find m ys → find m (x ∷ xs) ≡ find m (x ∷ ys)
  unfolding find first
  behind m x xs ys h = rw h

  -- an entry that was put is found as if it stood in front
  pub find-put : (m : ℕ) (xs : List (ℕ × A)) → find m (put_entry n a xs) ≡ find m ((n, a) ∷ xs)
  unfolding put_entry
  find-put m [] = refl
  find-put m (x ∷ xs) = go (eqb n x.0) refl (find-put m xs)
    where
      go : (b : Bool) → eqb n x.0 ≡ b → find m (put_entry n a xs) ≡ find m ((n, a) ∷ xs)
          → find m (when b then (n, a) ∷ xs else x ∷ put_entry n a xs) ≡ find m ((n, a) ∷ x ∷ xs)
      go true h rest = hidden m x xs h
      go false h rest = behind m x (put_entry n a xs) ((n, a) ∷ xs) rest ∙ either_way m x xs h

  -- and so is one of a new name at the end
  pub find-last : (m : ℕ) (xs : List (ℕ × A)) → find n xs ≡ none → find m (xs ++ ((n, a) ∷ [])) ≡ find m ((n, a) ∷ xs)
  find-last m [] h = refl
  find-last m (x ∷ xs) h = go (eqb n x.0) refl (unfold find first in h) (find-last m xs)
    where
      go : (b : Bool) → eqb n x.0 ≡ b → (when b then some x.1 else none) or find n xs ≡ none
          → (find n xs ≡ none → find m (xs ++ ((n, a) ∷ [])) ≡ find m ((n, a) ∷ xs))
          → find m (x ∷ xs ++ ((n, a) ∷ [])) ≡ find m ((n, a) ∷ x ∷ xs)
      go true p q rest = let r : some x.1 ≡ none = unfold ◌or◌ in q in none_some r refl
      go false p q rest =
          let r : find n xs ≡ none = unfold ◌or◌ in q in
          behind m x (xs ++ ((n, a) ∷ [])) ((n, a) ∷ xs) (rest r) ∙ either_way m x xs p
