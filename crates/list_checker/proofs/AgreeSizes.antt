-- The sizes of one operation: the definition's steps ask of the values read what the rules ask of the words.
use Rattle.std.proofs.lemmas.Bool.Decides.{nat_tests}
use Prim.Native.Nat.{ℕ, zero, suc, ◌/◌}
use mathlib.Core.Path.{◌≡◌, refl, sym, ◌∙◌}
use mathlib.Core.Bool.{Bool, true, false, ◌&&◌, ◌||◌, not}
use Rattle.std.proofs.Math.Bool.{and_assoc, and-true}
use Rattle.std.proofs.lemmas.Bool.{and_parts}
use mathlib.Core.List.{List, [], ◌∷◌}
use mathlib.Core.Option.{Option, none, some}
use native.Mathlib.Omega.{arith}
use lib.ListN.{get_or, drop}
use lib.Dec.{eqb, leb, ltb}
use borrow.Author.Tests.{eq-eqb, eqb-true}
use Rattle.prelude.specs.Base.{when◌then◌else◌, ◌or◌, or_else, and_then, is_some, any, all, first, contains}
use Rattle.definition.specs.Value.{Value, ActionKind, SemanticAction}
use Rattle.definition.specs.Sizes.{at, fixed_size}
use Rattle.definition.specs.Checker.{size_from, same_count, option_fits, is_sized, size_at, has_size, all_have_size, step_holds}
use Rattle.list_checker.specs.Action as w
use Rattle.list_checker.specs.Action.{Row, value_fit, values_fit, row_fit}
use Rattle.list_checker.proofs.AgreeValue.{value_of, inputs_of, value_sized}
use Rattle.list_checker.proofs.AgreeKind.{shape_of_row, steps_of, shaped, one-count, pcode_op-counts}

unfoldable pub inputs_sized : ℕ → List ℕ → Bool
inputs_sized zero r = true
inputs_sized (suc n) r = not (eqb (get_or r 1 0 / 16777216) 65535) && inputs_sized n (drop 2 r)

unfoldable pub output_sized : Bool → ℕ → Bool
output_sized output word = when output then not (eqb (word / 16777216) 65535) else true

unfoldable pub output_of : Bool → ℕ → ℕ → Option Value
output_of output number word = when output then some (value_of number word) else none

-- Tests.

pub if_and : (a b : Bool) → (when a then b else false) ≡ (a && b)
if_and a b = grind (arith, nat_tests)

pub eqb_comm : (a b : ℕ) → eqb a b ≡ eqb b a
eqb_comm a b = grind (arith, nat_tests)

assoc_3 : (a b c d : Bool) → (a && (b && (c && d))) ≡ (a && b && c && d)
assoc_3 a b c d = grind (arith, nat_tests)

pub below_one : (n : ℕ) → ltb n 1 ≡ eqb n 0
below_one n = grind (arith, nat_tests)

-- counts of a user operation that has at most 8 inputs
user-counts : (b few l : Bool) → ((when b then few else true) && l && true) ≡ (l && (not b || few))
user-counts b few l = grind (arith, nat_tests)

-- sized operands

size_some : (z : ℕ) → not (eqb z 65535) ≡ true → size_from z ≡ some z
unfolding size_from
size_some z h1 = grind (arith, nat_tests)

sized_value : (n x : ℕ) → is_sized (value_of n x) ≡ not (eqb (x / 16777216) 65535)
unfolding is_sized is_some value_of size_from
sized_value n x = grind (arith, nat_tests)

pub inputs-sized : (n : ℕ) (r : List ℕ) → all is_sized (inputs_of n r) ≡ inputs_sized n r
unfolding all inputs_of inputs_sized
inputs-sized zero r = refl
inputs-sized (suc n) r = rw (sized_value (get_or r 0 0) (get_or r 1 0), inputs-sized n (drop 2 r)) (if_and (not (eqb (get_or r 1 0 / 16777216) 65535)) (inputs_sized n (drop 2 r)))

pub output-sized : (b : Bool) (n x : ℕ) → option_fits is_sized (output_of b n x) ≡ output_sized b x
unfolding option_fits output_of output_sized
output-sized true n x = sized_value n x
output-sized false n x = refl

-- The rules.

abbrev acted : ActionKind → ℕ → List Value → Option Value → SemanticAction
acted kind number inputs output = record { kind = kind; number = number; inputs = inputs; output = output }

module _ (pointer : ℕ) (kind : ActionKind) (number : ℕ) (v0 v1 vo : Value) (s0 s1 so : ℕ) (p0 : v0.size ≡ some s0) (po : vo.size ≡ some so) where
  pair : all (step_holds pointer (acted kind number (v0 ∷ []) (some vo))) (steps_of w.same) ≡ eqb s0 so
  unfolding all step_holds steps_of all_have_size first ◌or◌ size_at and_then at has_size contains
  pair = rw (p0, po, eq-eqb s0 s0 refl) (simp (if_and, and-true))

  not_rule : all (step_holds pointer (acted kind number (v0 ∷ []) (some vo))) (steps_of w.negation) ≡ (eqb s0 1 && eqb so 1)
  unfolding all step_holds steps_of fixed_size at has_size contains
  not_rule = rw (p0, po, eqb_comm 1 s0, eqb_comm 1 so) (simp (if_and, and-true))

  nan : all (step_holds pointer (acted kind number (v0 ∷ []) (some vo))) (steps_of w.tested) ≡ eqb so 1
  unfolding all step_holds steps_of fixed_size at has_size contains
  nan = rw (po, eqb_comm 1 so) (simp (if_and, and-true))

  shift : all (step_holds pointer (acted kind number (v0 ∷ v1 ∷ []) (some vo))) (steps_of w.shift) ≡ eqb s0 so
  unfolding all step_holds steps_of all_have_size first ◌or◌ size_at and_then at has_size contains
  shift = rw (p0, po, eq-eqb s0 s0 refl) (simp (if_and, and-true))

  module _ (p1 : v1.size ≡ some s1) where
    triple : all (step_holds pointer (acted kind number (v0 ∷ v1 ∷ []) (some vo))) (steps_of w.triple) ≡ (eqb s0 s1 && eqb s0 so)
    unfolding all step_holds steps_of all_have_size first ◌or◌ size_at and_then at has_size contains
    triple = rw (p0, p1, po, eq-eqb s0 s0 refl) (simp (if_and, and-true))

    comparison : all (step_holds pointer (acted kind number (v0 ∷ v1 ∷ []) (some vo))) (steps_of w.comparison) ≡ (eqb s0 s1 && eqb so 1)
    unfolding all step_holds steps_of all_have_size first ◌or◌ size_at and_then at has_size contains fixed_size
    comparison = rw (p0, p1, po, eq-eqb s0 s0 refl, eqb_comm 1 so) (simp (if_and, and-true))

    boolean : all (step_holds pointer (acted kind number (v0 ∷ v1 ∷ []) (some vo))) (steps_of w.boolean) ≡ (eqb s0 1 && (eqb s1 1 && eqb so 1))
    unfolding all step_holds steps_of at has_size contains fixed_size
    boolean = rw (p0, p1, po, eqb_comm 1 s0, eqb_comm 1 s1, eqb_comm 1 so) (simp (if_and, and-true))

module _ (pointer : ℕ) (kind : ActionKind) (number : ℕ) (v0 : Value) (vs : List Value) (o : Option Value) (s0 : ℕ) (p0 : v0.size ≡ some s0) where
  load : all (step_holds pointer (acted kind number (v0 ∷ vs) o)) (steps_of w.load) ≡ eqb s0 pointer
  unfolding all step_holds steps_of fixed_size at has_size contains
  load = rw (p0, eqb_comm pointer s0) (simp (if_and, and-true))

  condition : all (step_holds pointer (acted kind number (v0 ∷ vs) o)) (steps_of w.condition) ≡ eqb s0 1
  unfolding all step_holds steps_of fixed_size at has_size contains
  condition = rw (p0, eqb_comm 1 s0) (simp (if_and, and-true))

  branch : all (step_holds pointer (acted kind number (v0 ∷ vs) o)) (steps_of w.branch) ≡ eqb s0 1
  unfolding all step_holds steps_of fixed_size at has_size contains
  branch = rw (p0, eqb_comm 1 s0) (simp (if_and, and-true))

module _ (pointer : ℕ) (kind : ActionKind) (number x0 y0 x1 y1 : ℕ) (r : List ℕ) (o0 o1 : ℕ) where
  abbrev words : List ℕ
  words = x0 ∷ y0 ∷ x1 ∷ y1 ∷ r

  in_0 : (n : ℕ) → inputs_sized (suc n) words ≡ true → (value_of x0 y0).size ≡ some (y0 / 16777216)
  unfolding inputs_sized value_of
  in_0 n h = size_some (y0 / 16777216) (and_parts _ _ h).0

  in_1 : (n : ℕ) → inputs_sized (suc (suc n)) words ≡ true → (value_of x1 y1).size ≡ some (y1 / 16777216)
  unfolding inputs_sized value_of
  in_1 n h = size_some (y1 / 16777216) (and_parts _ _ (and_parts (not (eqb (y0 / 16777216) 65535)) _ h).1).0

  out_0 : output_sized true o1 ≡ true → (value_of o0 o1).size ≡ some (o1 / 16777216)
  unfolding output_sized value_of
  out_0 h = size_some (o1 / 16777216) h

  abbrev steps : Row → ℕ → Bool → Bool
  steps row n b = all (step_holds pointer (acted kind number (inputs_of n words) (output_of b o0 o1))) (steps_of row)

  -- one pair of counts, and steps that are known where it is right
  counted : (row : Row) (n m below : ℕ) (b o q : Bool) → inputs_sized n words ≡ true → output_sized b o1 ≡ true →
      (inputs_sized m words ≡ true → output_sized o o1 ≡ true → steps row m o ≡ q) →
      (any (same_count (n, b)) ((m, o) ∷ []) && ltb number below && steps row n b) ≡ (eqb n m && (when o then b else not b) && ltb number below && q)
  unfolding same_count
  counted row n m below b o q h g f = rw (one-count n m b o) (go (eqb n m) refl b o h g f)
    where
      go : (t : Bool) → eqb n m ≡ t → (b o : Bool) → inputs_sized n words ≡ true → output_sized b o1 ≡ true → (inputs_sized m words ≡ true → output_sized o o1 ≡ true → steps row m o ≡ q) →
          (t && (when b then o else not o) && ltb number below && steps row n b) ≡ (t && (when o then b else not b) && ltb number below && q)
      go false e b o h g f = refl
      go true e true true h g f = let z : n ≡ m = eqb-true n m e in rw (z, f (rw z at h) g)
      go true e false false h g f = let z : n ≡ m = eqb-true n m e in rw (z, f (rw z at h) g)
      go true e true false h g f = refl
      go true e false true h g f = refl

  -- each row, of the operands that its operations have
  pub row_fit_lem : (row : Row) (n : ℕ) (b : Bool) → leb n 8 ≡ true → inputs_sized n words ≡ true → output_sized b o1 ≡ true →
      (shaped n b number (shape_of_row row) && steps row n b) ≡ row_fit pointer row number n b (y0 / 16777216) (y1 / 16777216) (o1 / 16777216)
  unfolding shape_of_row or_else and_then row_fit inputs_of output_of all steps_of
  row_fit_lem w.triple n b l h g =
      counted w.triple n 2 1 b true (eqb (y0 / 16777216) (y1 / 16777216) && eqb (y0 / 16777216) (o1 / 16777216)) h g (λ i j. triple pointer kind number (value_of x0 y0) (value_of x1 y1) (value_of o0 o1) _ _ _ (in_0 1 i) (out_0 j) (in_1 0 i))
      ∙ rw (below_one number) (sym (and_assoc (eqb n 2 && b && eqb number 0) _ _))
  row_fit_lem w.shift n b l h g =
      counted w.shift n 2 1 b true (eqb (y0 / 16777216) (o1 / 16777216)) h g (λ i j. shift pointer kind number (value_of x0 y0) (value_of x1 y1) (value_of o0 o1) _ 0 _ (in_0 1 i) (out_0 j)) ∙ rw (below_one number)
  row_fit_lem w.comparison n b l h g =
      counted w.comparison n 2 1 b true (eqb (y0 / 16777216) (y1 / 16777216) && eqb (o1 / 16777216) 1) h g (λ i j. comparison pointer kind number (value_of x0 y0) (value_of x1 y1) (value_of o0 o1) _ _ _ (in_0 1 i) (out_0 j) (in_1 0 i))
      ∙ rw (below_one number) (sym (and_assoc (eqb n 2 && b && eqb number 0) _ _))
  row_fit_lem w.boolean n b l h g =
      counted w.boolean n 2 1 b true (eqb (y0 / 16777216) 1 && (eqb (y1 / 16777216) 1 && eqb (o1 / 16777216) 1)) h g (λ i j. boolean pointer kind number (value_of x0 y0) (value_of x1 y1) (value_of o0 o1) _ _ _ (in_0 1 i) (out_0 j) (in_1 0 i))
      ∙ rw (below_one number) (assoc_3 (eqb n 2 && b && eqb number 0) _ _ _)
  row_fit_lem w.negation n b l h g =
      counted w.negation n 1 1 b true (eqb (y0 / 16777216) 1 && eqb (o1 / 16777216) 1) h g (λ i j. not_rule pointer kind number (value_of x0 y0) (value_of x1 y1) (value_of o0 o1) _ 0 _ (in_0 0 i) (out_0 j))
      ∙ rw (below_one number) (sym (and_assoc (eqb n 1 && b && eqb number 0) _ _))
  row_fit_lem w.same n b l h g =
      counted w.same n 1 1 b true (eqb (y0 / 16777216) (o1 / 16777216)) h g (λ i j. pair pointer kind number (value_of x0 y0) (value_of x1 y1) (value_of o0 o1) _ 0 _ (in_0 0 i) (out_0 j)) ∙ rw (below_one number)
  row_fit_lem w.tested n b l h g =
      counted w.tested n 1 1 b true (eqb (o1 / 16777216) 1) h g (λ i j. nan pointer kind number (value_of x0 y0) (value_of x1 y1) (value_of o0 o1) _ 0 _ (in_0 0 i) (out_0 j)) ∙ rw (below_one number)
  row_fit_lem w.free n b l h g = counted w.free n 1 1 b true true h g (λ i j. refl) ∙ rw (below_one number) (and-true _)
  row_fit_lem w.load n b l h g =
      counted w.load n 1 1 b true (eqb (y0 / 16777216) pointer) h g (λ i j. load pointer kind number (value_of x0 y0) _ _ _ (in_0 0 i)) ∙ rw (below_one number)
  row_fit_lem w.store n b l h g =
      counted w.store n 2 1 b false (eqb (y0 / 16777216) pointer) h g (λ i j. load pointer kind number (value_of x0 y0) _ _ _ (in_0 1 i)) ∙ rw (below_one number)
  row_fit_lem w.branch n b l h g = counted w.branch n 2 3 b false (eqb (y0 / 16777216) 1) h g (λ i j. branch pointer kind number (value_of x0 y0) _ _ _ (in_0 1 i))
  row_fit_lem w.condition n b l h g = counted w.condition n 2 256 b false (eqb (y0 / 16777216) 1) h g (λ i j. condition pointer kind number (value_of x0 y0) _ _ _ (in_0 1 i))
  row_fit_lem w.label n b l h g = counted w.label n 0 256 b false true h g (λ i j. refl) ∙ and-true _
  row_fit_lem w.user n b l h g = rw (pcode_op-counts n b, l) (user-counts b (leb n 2) (ltb number 256))
  row_fit_lem w.argument n b l h g = counted w.argument n 1 6 b false true h g (λ i j. refl) ∙ and-true _
  row_fit_lem w.invalid n b l h g = counted w.invalid n 0 1 b false true h g (λ i j. refl) ∙ rw (below_one number) (and-true _)
  row_fit_lem w.unknown n b l h g = refl

-- Values that are sized too.

pub values_sized : (t s n : ℕ) (r : List ℕ) → values_fit t s true n r ≡ (values_fit t s false n r && inputs_sized n r)
unfolding values_fit inputs_sized
values_sized t s zero r = sym (and-true _)
values_sized t s (suc n) r =
    rw (value_sized t s (get_or r 0 0) (get_or r 1 0), values_sized t s n (drop 2 r))
    (go (value_fit t s false (get_or r 0 0) (get_or r 1 0)) (not (eqb (get_or r 1 0 / 16777216) 65535)) (values_fit t s false n (drop 2 r)) (inputs_sized n (drop 2 r)))
  where
    go : (v z f i : Bool) → (v && z && (f && i)) ≡ (v && f && (z && i))
    go false z f i = refl
    go true true true i = refl
    go true true false i = refl
    go true false true i = refl
    go true false false i = refl
