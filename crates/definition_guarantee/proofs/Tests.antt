-- Tests that are true or false, and the definition's functions on options and lists.
use Prim.Native.Nat.{ℕ, zero, suc}
use mathlib.Core.Path.{◌≡◌, refl, sym, ◌∙◌, ap, subst}
use mathlib.Core.Logic.{◌⊎◌, inl, inr}
use mathlib.Core.Bool.{Bool, true, false, ◌&&◌}
use mathlib.Core.List.{List, [], ◌∷◌, ◌++◌}
use mathlib.Core.Option.{Option, none, some}
use lib.Dec.{T, eqb}
use lib.ListN.{get_elem?, set}
use Rattle.std.proofs.lemmas.Bool.{eqb-true, eq-eqb}
use Rattle.prelude.specs.Base.{when◌then◌else◌, ◌or◌, or_else, and_then, any, all, first, same_numbers}
use Rattle.definition_guarantee.specs.Tests.{Each}

pub clash : {A : Type 0} {b : Bool} → b ≡ true → b ≡ false → A
clash p q = absurd (subst T (sym p ∙ q) tt)

pub never : {A : Type 0} → false ≡ true → A
never h = clash h refl

pub same : (n : ℕ) → eqb n n ≡ true
same n = eq-eqb n n refl

pub and_true : (a b : Bool) → a && b ≡ true → (a ≡ true) × (b ≡ true)
and_true true b e = (refl, e)
and_true false b e = never e

pub both : {a b : Bool} → a ≡ true → b ≡ true → a && b ≡ true
both {a} {b} p q = rw p q

pub if_true : (b c : Bool) → (when b then c else false) ≡ true → (b ≡ true) × (c ≡ true)
if_true true c e = (refl, e)
if_true false c e = never e

pub if_both : {b c : Bool} → b ≡ true → c ≡ true → (when b then c else false) ≡ true
if_both {b} {c} p q = rw p q

-- options

pub some_same : {A : Type 0} {x y : A} → some x ≡ some y → x ≡ y
some_same e = cc

pub none_some : {A B : Type 0} {a : A} {x : Option A} → x ≡ none → x ≡ some a → B
none_some {A} {B} {a} {x} p q = cc

pub chosen : {A : Type 0} (b : Bool) (x y : A) → (when b then some x else none) ≡ some y → x ≡ y
chosen true x y e = some_same e
chosen false x y e = none_some {x = none} refl e

pub or_true : (x : Option Bool) → or_else false x ≡ true → x ≡ some true
unfolding or_else
or_true (some b) e = ap some e
or_true none e = never e

pub then_some : {A B : Type 0} (x : Option A) (f : A → Option B) (b : B) → and_then x f ≡ some b → (a : A) × (x ≡ some a) × (f a ≡ some b)
unfolding and_then
then_some (some a) f b e = (a, refl, e)
then_some none f b e = cc

-- lists

module _ {A : Type 0} where
  pub all_cons : (p : A → Bool) (x : A) (xs : List A) → p x ≡ true → all p xs ≡ true → all p (x ∷ xs) ≡ true
  unfolding all
  all_cons p x xs h k = if_both h k

  pub all_parts : (p : A → Bool) (x : A) (xs : List A) → all p (x ∷ xs) ≡ true → (p x ≡ true) × (all p xs ≡ true)
  unfolding all
  all_parts p x xs h = if_true (p x) (all p xs) h

  pub all_append : (p : A → Bool) (xs ys : List A) → all p xs ≡ true → all p ys ≡ true → all p (xs ++ ys) ≡ true
  unfolding all
  all_append p [] ys h k = k
  all_append p (x ∷ xs) ys h k = let q = all_parts p x xs h in if_both q.0 (all_append p xs ys q.1 k)

  pub all_more : (p q : A → Bool) → ((x : A) → p x ≡ true → q x ≡ true) → (xs : List A) → all p xs ≡ true → all q xs ≡ true
  unfolding all
  all_more p q f [] h = refl
  all_more p q f (x ∷ xs) h = let k = all_parts p x xs h in if_both (f x k.0) (all_more p q f xs k.1)

  pub all_set : (p : A → Bool) (xs : List A) (i : ℕ) (v : A) → all p xs ≡ true → p v ≡ true → all p (set xs i v) ≡ true
  unfolding all
  all_set p [] i v h k = refl
  all_set p (x ∷ xs) zero v h k = if_both k (all_parts p x xs h).1
  all_set p (x ∷ xs) (suc i) v h k = let q = all_parts p x xs h in if_both q.0 (all_set p xs i v q.1 k)

  pub all_at : (p : A → Bool) (xs : List A) (i : ℕ) (x : A) → all p xs ≡ true → get_elem? xs i ≡ some x → p x ≡ true
  unfolding all
  all_at p [] i x h g = cc
  all_at p (y ∷ ys) zero x h g = let k = all_parts p y ys h in let e : y ≡ x = cc in rw (← e) k.0
  all_at p (y ∷ ys) (suc i) x h g = all_at p ys i x (all_parts p y ys h).1 g

  pub all_from : (p : A → Bool) (xs : List A) → ((i : ℕ) (x : A) → get_elem? xs i ≡ some x → p x ≡ true) → all p xs ≡ true
  unfolding all
  all_from p [] h = refl
  all_from p (x ∷ xs) h = if_both (h 0 x refl) (all_from p xs (λ i y e. h (suc i) y e))

  -- what the first that f finds comes from
  pub first_from : {B : Type 0} (f : A → Option B) (xs : List A) (b : B) → first f xs ≡ some b
      → (i : ℕ) × (x : A) × (get_elem? xs i ≡ some x) × (f x ≡ some b)
  unfolding first ◌or◌
  first_from f [] b e = cc
  first_from {B} f (x ∷ xs) b e = go (f x) refl e (first_from f xs b)
    where
      go : (y : Option B) → f x ≡ y → y or first f xs ≡ some b
          → (first f xs ≡ some b → (i : ℕ) × (z : A) × (get_elem? xs i ≡ some z) × (f z ≡ some b))
          → (i : ℕ) × (z : A) × (get_elem? (x ∷ xs) i ≡ some z) × (f z ≡ some b)
      go (some c) d e r = (0, x, refl, d ∙ e)
      go none d e r = let k = r e in (suc k.0, k.1, k.2, k.3)

  pub first_none : {B : Type 0} (f : A → Option B) (xs : List A) (i : ℕ) (x : A) → first f xs ≡ none → get_elem? xs i ≡ some x → f x ≡ none
  unfolding first ◌or◌
  first_none f [] i x e d = none_some {x = none} refl d
  first_none {B} f (y ∷ xs) i x e d = go (f y) refl i d e (λ j c k. first_none f xs j x k c)
    where
      go : (z : Option B) → f y ≡ z → (i : ℕ) → get_elem? (y ∷ xs) i ≡ some x → z or first f xs ≡ none
          → ((j : ℕ) → get_elem? xs j ≡ some x → first f xs ≡ none → f x ≡ none) → f x ≡ none
      go (some b) k i d e r = none_some e refl
      go none k zero d e r = subst (λ (w : A). f w ≡ none) (some_same d) k
      go none k (suc i) d e r = r i d e

  -- what passes a test that something passes
  pub any_from : (p : A → Bool) (xs : List A) → any p xs ≡ true → (i : ℕ) × (x : A) × (get_elem? xs i ≡ some x) × (p x ≡ true)
  unfolding any
  any_from p [] e = never e
  any_from p (x ∷ xs) e = go (p x) refl e (any_from p xs)
    where
      go : (b : Bool) → p x ≡ b → (when b then true else any p xs) ≡ true
          → (any p xs ≡ true → (i : ℕ) × (z : A) × (get_elem? xs i ≡ some z) × (p z ≡ true))
          → (i : ℕ) × (z : A) × (get_elem? (x ∷ xs) i ≡ some z) × (p z ≡ true)
      go true d e r = (0, x, refl, d)
      go false d e r = let k = r e in (suc k.0, k.1, k.2, k.3)

pub same-list : (xs : List ℕ) → same_numbers xs xs ≡ true
unfolding same_numbers
same-list [] = refl
same-list (x ∷ xs) = if_both (same x) (same-list xs)

by_head : (x y : ℕ) (xs ys : List ℕ) → (b : Bool) → eqb x y ≡ b → (same_numbers xs ys ≡ true → xs ≡ ys)
    → (when b then same_numbers xs ys else false) ≡ true → (x ∷ xs) ≡ (y ∷ ys)
by_head x y xs ys true e tails h = let p : x ≡ y = eqb-true x y e in let q : xs ≡ ys = tails h in cc
by_head x y xs ys false e tails h = never h

pub list_same : (xs ys : List ℕ) → same_numbers xs ys ≡ true → xs ≡ ys
unfolding same_numbers
list_same [] [] h = refl
list_same [] (y ∷ ys) h = never h
list_same (x ∷ xs) [] h = never h
list_same (x ∷ xs) (y ∷ ys) h = by_head x y xs ys (eqb x y) refl (list_same xs ys) h

pub each_at : {A : Type 0} (P : A → Type 0) (xs : List A) (i : ℕ) (x : A) → Each P xs → get_elem? xs i ≡ some x → P x
each_at P [] i x h e = cc
each_at P (y ∷ xs) zero x h e = let d : y ≡ x = cc in subst P d h.0
each_at P (y ∷ xs) (suc i) x h e = each_at P xs i x h.1 e

pub each_append : {A : Type 0} (P : A → Type 0) (xs ys : List A) → Each P xs → Each P ys → Each P (xs ++ ys)
each_append P [] ys h k = k
each_append P (x ∷ xs) ys h k = (h.0, each_append P xs ys h.1 k)

pub each_more : {A : Type 0} (P Q : A → Type 0) → ((x : A) → P x → Q x) → (xs : List A) → Each P xs → Each Q xs
each_more P Q f [] h = tt
each_more P Q f (x ∷ xs) h = (f x h.0, each_more P Q f xs h.1)

pub each_all : {A : Type 0} (p : A → Bool) (xs : List A) → Each (λ x. p x ≡ true) xs → all p xs ≡ true
unfolding all
each_all p [] h = refl
each_all p (x ∷ xs) h = if_both h.0 (each_all p xs h.1)

pub all_each : {A : Type 0} (p : A → Bool) (xs : List A) → all p xs ≡ true → Each (λ x. p x ≡ true) xs
all_each p [] h = tt
all_each p (x ∷ xs) h = let k = all_parts p x xs h in (k.0, all_each p xs k.1)

-- a number in a list

abbrev pub In : ℕ → List ℕ → Type 0
In n [] = ⊥
In n (m ∷ ms) = (n ≡ m) ⊎ In n ms

pub in_right : (n : ℕ) (ms ns : List ℕ) → In n ns → In n (ms ++ ns)
in_right n [] ns i = i
in_right n (m ∷ ms) ns i = inr (in_right n ms ns i)

pub in_left : (n : ℕ) (ms ns : List ℕ) → In n ms → In n (ms ++ ns)
in_left n [] ns i = absurd i
in_left n (m ∷ ms) ns (inl e) = inl e
in_left n (m ∷ ms) ns (inr i) = inr (in_left n ms ns i)
