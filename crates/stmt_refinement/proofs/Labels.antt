-- Labels: a scope's list has for each name one more than the number of the label that the scope has under it, and 512 more
-- once it is placed; and it still does after a label is added or placed.
use Prim.Native.Nat.{ℕ, ◌+◌, ◌-◌, ◌/◌, ◌%◌, ◌≤◌, ◌<◌}
use mathlib.Core.Path.{◌≡◌, refl, sym, ◌∙◌, subst}
use mathlib.Core.Bool.{Bool, true, false}
use mathlib.Core.List.{List}
use mathlib.Core.Option.{none, some}
use native.Mathlib.Omega.{arith}
use lib.ListN.{length}
use lib.Dec.{eqb, leb}
use borrow.Author.Tests.{eqb-true, eqb-false, ne_eqb, le-leb, lt-leb}
use Rattle.prelude.specs.Base as definition
use Rattle.prelude.specs.Base.{◌or◌, first, when◌then◌else◌}
use Rattle.definition.specs.Walk.{Label}
use Rattle.definition.specs.Scope.{find, put_entry}
use Rattle.definition.proofs.Openers.{base_opens}
use Rattle.definition_guarantee.proofs.Entries.{find-put}
use Rattle.list_values.specs.Base.{listed}
use Rattle.expr_scope.specs.Smalls.{small, put_small}
use Rattle.expr_scope.proofs.SmallLaws.{small_same, small_other}
use Rattle.stmt_branches.specs.Outcomes.{Label as WordLabel}
use Rattle.stmt_branches.specs.Labels.{label_place, label_or, get_or_insert_label, place_label}
use Rattle.expr_refinement.proofs.Scopes.{eqb_swap}
use Rattle.stmt_refinement.specs.Standing.{label_number, LabelsIn}

-- a label's number, without and with its mark
number_is : (l : Label) → l.id < 256 → label_number (some l) % 512 ≡ l.id + 1
unfolding label_number
number_is l h = go l.defined
  where
    go : (b : Bool) → (l.id + 1 + (when b then 512 else 0)) % 512 ≡ l.id + 1
    go true = omega arith
    go false = omega arith

number_placed : (l : Label) → l.id < 256 → leb 512 (label_number (some l)) ≡ l.defined
unfolding label_number
number_placed l h = go l.defined
  where
    go : (b : Bool) → leb 512 (l.id + 1 + (when b then 512 else 0)) ≡ b
    go true = le-leb 512 (l.id + 1 + 512) (omega arith)
    go false = lt-leb 512 (l.id + 1 + 0) (omega arith)

module _ (p : List ℕ) (n : ℕ) (labels : List (ℕ × Label)) (labelled : LabelsIn p n labels) (few : n ≤ 256) (name : ℕ) (known : name < 1024) where
  pub label_found : (l : Label) → find name labels ≡ some l → get_or_insert_label p name n ≡ listed (WordLabel.Is l.id) p
  unfolding get_or_insert_label label_or
  label_found l q =
      let b = labelled.below name l q in
      let k : l.id + 1 - 1 ≡ l.id = omega arith in
      rw (labelled.same name known, q, number_is l (omega arith), ne_eqb (l.id + 1) 0 (λ z. omega arith), k)

  pub labels_full : find name labels ≡ none → 256 ≤ n → get_or_insert_label p name n ≡ listed (WordLabel.No 14) p
  unfolding get_or_insert_label label_or label_number
  labels_full q h = rw (labelled.same name known, q, le-leb 256 n h)

  pub label_new : find name labels ≡ none → n < 256 → get_or_insert_label p name n ≡ listed (WordLabel.Is n) (put_small p (label_place name) (n + 1))
  unfolding get_or_insert_label label_or label_number
  label_new q h = rw (labelled.same name known, q, lt-leb 256 n (omega arith))

  pub label_once : (l : Label) → find name labels ≡ some l → l.defined ≡ false → place_label p l.id name ≡ listed (WordLabel.Is l.id) (put_small p (label_place name) (l.id + 1 + 512))
  unfolding place_label
  label_once l q d =
      let b = labelled.below name l q in
      let k : label_number (some l) ≡ l.id + 1 = (unfold label_number in rw d (omega arith)) in
      let m : small p (label_place name) ≡ l.id + 1 = labelled.same name known ∙ (rw q k) in
      rw (m, lt-leb 512 (l.id + 1) (omega arith))

  pub label_twice_lem : (l : Label) → find name labels ≡ some l → l.defined ≡ true → place_label p l.id name ≡ listed (WordLabel.No 27) p
  unfolding place_label
  label_twice_lem l q d = let b = labelled.below name l q in rw (labelled.same name known, q, number_placed l (omega arith), d)

-- a label's place is within the list, and apart from any other's
place_in : (name : ℕ) → name < 1024 → 64 + label_place name / 6 < 406
unfolding label_place
place_in name h = omega arith

place_apart : (name other : ℕ) → name < 1024 → other < 1024 → eqb name other ≡ false → label_place name ≡ label_place other → ⊥
unfolding label_place
place_apart name other h k q z = eqb-false name other q (omega arith)

-- One label put under a name.
module _ (p : List ℕ) (n m : ℕ) (labels : List (ℕ × Label)) (labelled : LabelsIn p n labels) (long : length p ≡ 406) (more : n ≤ m) (name : ℕ) (known : name < 1024) (l : Label) (inside : l.id < m) (few : m ≤ 256) where
  find_there : (k : ℕ) → find k (put_entry name l labels) ≡ (definition.when◌then◌else◌ (eqb name k) (some l) none) or find k labels
  find_there k = rw (eqb_swap name k) (find-put name l k labels ∙ (unfold find first in refl))

  number_small : label_number (some l) % 1024 ≡ label_number (some l)
  unfolding label_number
  number_small = go l.defined
    where
      go : (b : Bool) → (l.id + 1 + (when b then 512 else 0)) % 1024 ≡ l.id + 1 + (when b then 512 else 0)
      go true = omega arith
      go false = omega arith

  pub label-put : LabelsIn (put_small p (label_place name) (label_number (some l))) m (put_entry name l labels)
  label-put = record {
    same = λ k h. rw (find_there k) (at k h (eqb name k) refl);
    below = λ k y q. under k y (eqb name k) (sym (find_there k) ∙ q);
  }
    where
      room : 64 + label_place name / 6 < length p
      room = rw long (place_in name known)

      at : (k : ℕ) → k < 1024 → (b : Bool) → eqb name k ≡ b
          → small (put_small p (label_place name) (label_number (some l))) (label_place k) ≡ label_number ((definition.when◌then◌else◌ b (some l) none) or find k labels)
      at k h true q = unfold base_opens in rw (← eqb-true name k q) (small_same p (label_place name) (label_number (some l)) room ∙ number_small)
      at k h false q = unfold base_opens in small_other p (label_place name) (label_place k) (label_number (some l)) room (place_apart name k known h q) ∙ labelled.same k h

      under : (k : ℕ) (y : Label) (b : Bool) → (definition.when◌then◌else◌ b (some l) none) or find k labels ≡ some y → y.id < m
      under k y true q = let c : some l ≡ some y = unfold base_opens in q in let d : l ≡ y = cc in subst (λ (z : Label). z.id < m) d inside
      under k y false q = let c : find k labels ≡ some y = unfold base_opens in q in let d = labelled.below k y c in omega arith

-- more labels given, none of them to this scope
pub labels_more : (p : List ℕ) (n m : ℕ) (labels : List (ℕ × Label)) → n ≤ m → LabelsIn p n labels → LabelsIn p m labels
labels_more p n m labels l h = record { same = h.same; below = λ name y q. (let k = h.below name y q in omega arith) }
