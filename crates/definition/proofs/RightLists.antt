-- What the conditions of a right list come to, one law for each.
use Prim.Native.Nat.{ℕ, zero, suc, ◌*◌, ◌-◌}
use mathlib.Core.Path.{◌≡◌, refl, sym, ◌∙◌, ap}
use mathlib.Core.List.{List, [], ◌∷◌, ◌++◌}
use mathlib.Core.Option.{none, some}
use native.Mathlib.Omega.{arith}
use lib.ListN.{length, get_elem?, replicate}
use Rattle.definition.specs.Operations.{Operation}
use Rattle.definition.specs.Value.{Kind, Value, ActionKind, SemanticAction}
use Rattle.definition.specs.Sizes.{in0, out, pointer, at, fixed_size}
use Rattle.definition.specs.ActionList.{list_words}
use Rattle.definition.specs.Right.{Among, input, NumberWithin, ValueWithin, ActionRight, Right}
use Rattle.definition.proofs.Openers.{sizes_opens}

-- the largest offset and size that a value can have
pub largest_value : ValueWithin 0 0 (record { kind = Kind.Constant; number = 0; offset = 65535; size = some 65534 })
unfolding NumberWithin
largest_value = record { number = tt; offset = omega arith; size = λ z e. let n : 65534 ≡ z = cc in omega arith }

module _ (temporaries subtables pointer_size : ℕ) (a : SemanticAction) (r : ActionRight temporaries subtables pointer_size a) (v : Value) where
  -- an operation has no unsized input
  pub inputs-sized : (op : Operation) (i : ℕ) → a.kind ≡ ActionKind.Op op → get_elem? a.inputs i ≡ some v → v.size ≡ none → ⊥
  inputs-sized op i k e n = let s = r.sizes op v k (input (i, e)) in let z : ◌≡◌ {A = ℕ} 0 1 = cc in omega (arith, z)

  -- a copy has the size of what is copied
  pub copies_equal : (u : Value) → a.kind ≡ ActionKind.Op Operation.Copy → at in0 a ≡ some v → at out a ≡ some u → v.size ≡ u.size
  unfolding sizes_opens
  copies_equal u k e f = r.equal_sizes Operation.Copy (in0 ∷ out ∷ []) in0 out v u k (0, refl) (0, refl) (1, refl) e f

  -- what is loaded from has pointer size
  pub load_pointers : a.kind ≡ ActionKind.Op Operation.Load → at in0 a ≡ some v → v.size ≡ some pointer_size
  unfolding sizes_opens fixed_size
  load_pointers k e = r.fixed_sizes Operation.Load in0 pointer v k (0, refl) e

only_one : (xs : List SemanticAction) (x y : SemanticAction) → length xs ≡ 1 → Among x xs → Among y xs → x ≡ y
only_one [] x y n i j = absurd (omega (arith, n))
only_one (z ∷ w ∷ xs) x y n i j = absurd (omega (arith, n))
only_one (z ∷ []) x y n i j = sym (head i.0 x i.1) ∙ head j.0 y j.1
  where
    head : (i : ℕ) (x : SemanticAction) → get_elem? (z ∷ []) i ≡ some x → z ≡ x
    head zero x e = cc
    head (suc i) x e = let k : ◌≡◌ {A = ℕ} 0 1 = cc in absurd (omega (arith, k))

module _ (ws : List ℕ) (temporaries pointer_size : ℕ) where
  -- with no actions every word is zero
  pub empty_zero : (subtables : ℕ) → Right ws 0 temporaries subtables pointer_size → ws ≡ replicate (length ws) 0
  unfolding list_words
  empty_zero subtables r = go r.actions r.count r.words
    where
      go : (xs : List SemanticAction) → length xs ≡ 0 → ws ≡ list_words xs ++ replicate (length ws - 24 * 0) 0 → ws ≡ replicate (length ws) 0
      go [] n e = let l : length ws - 24 * 0 ≡ length ws = omega arith in rw l at e
      go (x ∷ xs) n e = absurd (omega (arith, n))

  -- no two actions place one label
  pub label_again : (n subtables : ℕ) (r : Right ws n temporaries subtables pointer_size) (a b : SemanticAction)
      → get_elem? r.actions 0 ≡ some a → get_elem? r.actions 1 ≡ some b
      → a.kind ≡ ActionKind.Op Operation.PcodeLabel → b.kind ≡ ActionKind.Op Operation.PcodeLabel → a.number ≡ b.number → ⊥
  label_again n subtables r a b e f k l same = let z = r.labels_once 0 1 a b e f k l same in omega (arith, z)

  -- one action does not build two subtables
  pub two_unbuilt : Right ws 1 temporaries 2 pointer_size → ⊥
  two_unbuilt r =
      let x = r.all_built 0 (omega arith) in
      let y = r.all_built 1 (omega arith) in
      let z : ◌≡◌ {A = ℕ} 0 1 = sym x.3 ∙ ap (λ (a : SemanticAction). a.number) (only_one r.actions x.0 y.0 r.count x.1 y.1) ∙ y.3 in
      omega (arith, z)
