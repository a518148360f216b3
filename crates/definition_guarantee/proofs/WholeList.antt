-- Labels and Builds: the passes and the end leave alone which label an action places and which subtable it builds.
use Prim.Native.Nat.{ℕ, zero, suc, ◌+◌, ◌≤◌, ◌<◌}
use mathlib.Core.Path.{◌≡◌, refl, sym, ◌∙◌, ap, subst}
use mathlib.Core.Logic.{inl, inr}
use mathlib.Core.Bool.{Bool, true, false, ◌&&◌, not}
use mathlib.Core.List.{List, [], ◌∷◌, ◌++◌}
use mathlib.Core.Option.{none, some}
use native.Mathlib.Omega.{arith}
use lib.Dec.{eqb}
use lib.ListN.{length}
use Rattle.prelude.specs.Base.{when◌then◌else◌, or_else, and_then, is_some, any, all}
use Rattle.definition.specs.Operations.{Operation, operation_number, is_op}
use Rattle.definition.specs.Value.{ActionKind, SemanticAction, operation_of, Temporary}
use Rattle.definition.specs.Ast.{Section}
use Rattle.definition.specs.Sizes.{steps_of, Sizing, update_operand_sizes, backward_pass, forward_pass}
use Rattle.definition.specs.End.{is_build, builds, implicit_builds}
use Rattle.definition.specs.ActionList.{places_label}
use Rattle.definition.specs.Checker.{places, labels_once, all_built, layout_fits, sizes_hold, operation_holds, shape_of, counts_fit, same_count, option_fits, base_fits}
use Rattle.std.proofs.lemmas.Bool.{eqb-true, ne_eqb, eqb-false}
use Rattle.definition_guarantee.proofs.Tests.{clash, same, both, all_cons, In, none_some}
use Rattle.definition_guarantee.proofs.Rules.{Alike, alike_refl, steps_alike}
use Rattle.definition_guarantee.proofs.Words.{Laid, laid_fits}
use Rattle.definition_guarantee.proofs.Finish as end
use Rattle.definition_guarantee.proofs.Finish.{Finished, FinishedAll, ended, next}

-- the labels that a list's actions place, by their numbers

unfoldable pub placing : ActionKind → Bool
placing k = or_else false (and_then (operation_of k) λ operation. some (is_op Operation.PcodeLabel operation))

unfoldable pub place : Bool → ℕ → List ℕ → List ℕ
place true n ns = n ∷ ns
place false n ns = ns

unfoldable pub label_numbers : List SemanticAction → List ℕ
label_numbers [] = []
label_numbers (a ∷ xs) = place (placing a.kind) a.number (label_numbers xs)

abbrev pub Distinct : List ℕ → Type 0
Distinct [] = Unit {0}
Distinct (n ∷ ns) = (¬ In n ns) × Distinct ns

pub numbers_append : (xs ys : List SemanticAction) → label_numbers (xs ++ ys) ≡ label_numbers xs ++ label_numbers ys
unfolding label_numbers place
numbers_append [] ys = refl
numbers_append (a ∷ xs) ys = go (placing a.kind) (numbers_append xs ys)
  where
    go : (b : Bool) → label_numbers (xs ++ ys) ≡ label_numbers xs ++ label_numbers ys
        → place b a.number (label_numbers (xs ++ ys)) ≡ place b a.number (label_numbers xs) ++ label_numbers ys
    go true e = ap (λ (l : List ℕ). a.number ∷ l) e
    go false e = e

not_placed : (n : ℕ) (xs : List SemanticAction) → ¬ In n (label_numbers xs) → any (places n) xs ≡ false
unfolding label_numbers place any places places_label placing
not_placed n [] h = refl
not_placed n (a ∷ xs) h = go (placing a.kind) (not_placed n xs) h
  where
    go : (b : Bool) → (¬ In n (label_numbers xs) → any (places n) xs ≡ false) → ¬ In n (place b a.number (label_numbers xs))
        → (when b && eqb n a.number then true else any (places n) xs) ≡ false
    go true r h = rw (ne_eqb n a.number (λ e. h (inl e))) (r (λ i. h (inr i)))
    go false r h = r h

pub distinct_once : (xs : List SemanticAction) → Distinct (label_numbers xs) → labels_once xs ≡ true
unfolding label_numbers place labels_once places_label placing
distinct_once [] h = refl
distinct_once (a ∷ xs) h = go (placing a.kind) (distinct_once xs) h
  where
    go : (b : Bool) → (Distinct (label_numbers xs) → labels_once xs ≡ true) → Distinct (place b a.number (label_numbers xs))
        → (not (b && any (places a.number) xs) && labels_once xs) ≡ true
    go true r h = both (ap not (not_placed a.number xs h.0)) (r h.1)
    go false r h = r h

-- two lists of actions that place the same labels and build the same subtables
pub data SameHeads : List SemanticAction → List SemanticAction → Type 0 where
  no_heads : SameHeads [] []
  head : {x y : SemanticAction} {xs ys : List SemanticAction} → placing y.kind ≡ placing x.kind
      → is_build y.kind ≡ is_build x.kind
      → (placing x.kind ≡ true → y.number ≡ x.number) → (is_build x.kind ≡ true → y.number ≡ x.number) → SameHeads xs ys
      → SameHeads (x ∷ xs) (y ∷ ys)

pub same-labels : (xs ys : List SemanticAction) → SameHeads xs ys → label_numbers ys ≡ label_numbers xs
unfolding label_numbers place
same-labels xs ys no_heads = refl
same-labels xs ys (head {x = x} {y = y} {xs = xr} {ys = yr} p b n m r) = rw (p, same-labels xr yr r) (go (placing x.kind) n)
  where
    go : (b : Bool) → (b ≡ true → y.number ≡ x.number) → place b y.number (label_numbers xr) ≡ place b x.number (label_numbers xr)
    go true n = rw (n refl)
    go false n = refl

pub same-builds : (i : ℕ) (xs ys : List SemanticAction) → SameHeads xs ys → any (builds i) ys ≡ any (builds i) xs
unfolding any builds
same-builds i xs ys no_heads = refl
same-builds i xs ys (head {x = x} {y = y} {xs = xr} {ys = yr} p b n m r) = rw (b, same-builds i xr yr r) (go (is_build x.kind) m)
  where
    go : (b : Bool) → (b ≡ true → y.number ≡ x.number)
        → (when (when b then eqb i y.number else false) then true else any (builds i) xr) ≡
        (when (when b then eqb i x.number else false) then true else any (builds i) xr)
    go true n = rw (n refl)
    go false n = refl

pub same_length : (xs ys : List SemanticAction) → SameHeads xs ys → length ys ≡ length xs
same_length xs ys no_heads = refl
same_length xs ys (head {xs = xr} {ys = yr} p b n m r) = ap suc (same_length xr yr r)

alike_head : (x y : SemanticAction) (xs ys : List SemanticAction) → Alike x y → SameHeads xs ys → SameHeads (x ∷ xs) (y ∷ ys)
alike_head x y xs ys a r = head (ap placing a.kind) (ap is_build a.kind) (λ e. a.number) (λ e. a.number) r

module _ (sec : Section) where
  pub backward_heads : (xs : List SemanticAction) (s : Sizing) → SameHeads xs (backward_pass sec xs s).0
  unfolding backward_pass update_operand_sizes
  backward_heads [] s = no_heads
  backward_heads (a ∷ xs) s = alike_head a _ xs _ (steps_alike sec false (steps_of (operation_of a.kind)) a _) (backward_heads xs s)

  pub forward-heads : (xs : List SemanticAction) (s : Sizing) → SameHeads xs (forward_pass sec xs s).0
  unfolding forward_pass update_operand_sizes
  forward-heads [] s = no_heads
  forward-heads (a ∷ xs) s = alike_head a _ xs _ (steps_alike sec true (steps_of (operation_of a.kind)) a _) (forward-heads xs _)

  op-builds_not : (k : ActionKind) (op : Operation) → operation_of k ≡ some op → is_build k ≡ false
  unfolding operation_of is_build
  op-builds_not (ActionKind.Op other) op e = refl
  op-builds_not ActionKind.AddressOf op e = refl
  op-builds_not ActionKind.LoadRegister op e = refl
  op-builds_not ActionKind.StoreRegister op e = refl
  op-builds_not ActionKind.DelaySlot op e = refl
  op-builds_not ActionKind.Build op e = none_some {x = none} refl e

  subpiece-places_not : (k : ActionKind) (op : Operation) → operation_of k ≡ some op → is_op Operation.Subpiece op ≡ true
      → placing k ≡ false
  unfolding placing or_else and_then operation_number
  subpiece-places_not k op e d = rw e (ne_eqb 62 (operation_number op)
      (λ h. let n = eqb-true 66 (operation_number op) d in absurd (omega arith)))

  copy_places_not : (k : ActionKind) → k ≡ ActionKind.Op Operation.Copy → (placing k ≡ false) × (is_build k ≡ false)
  unfolding placing or_else and_then operation_number operation_of is_build
  copy_places_not k e = rw e (refl, refl)

  finished_head : (w : List Temporary) (x y : SemanticAction) (xs ys : List SemanticAction) → Finished sec w x y → SameHeads xs ys
      → SameHeads (x ∷ xs) (y ∷ ys)
  finished_head w x y xs ys (end.unchanged k e) r =
      subst (λ (z : SemanticAction). SameHeads (x ∷ xs) (z ∷ ys)) (sym e) (alike_head x x xs ys alike_refl r)
  finished_head w x y xs ys (end.sized op k d f) r =
      head (ap placing f.kind) (ap is_build f.kind) (λ e. f.number) (λ e. f.number) r
  finished_head w x y xs ys (end.copied op k d c f g) r =
      let p = copy_places_not y.kind g.kind in
      head (p.0 ∙ sym (subpiece-places_not x.kind op k d)) (p.1 ∙ sym (op-builds_not x.kind op k))
      (λ e. clash e (subpiece-places_not x.kind op k d)) (λ e. clash e (op-builds_not x.kind op k)) r

  pub finished-heads : (w : List Temporary) (xs ys : List SemanticAction) → FinishedAll sec w xs ys → SameHeads xs ys
  finished-heads w xs ys ended = no_heads
  finished-heads w xs ys (next {x = x} {y = y} {xs = xr} {ys = yr} f r) = finished_head w x y xr yr f (finished-heads w xr yr r)

-- the Builds in front

any_right : (p : SemanticAction → Bool) (xs ys : List SemanticAction) → any p ys ≡ true → any p (xs ++ ys) ≡ true
unfolding any
any_right p [] ys h = h
any_right p (x ∷ xs) ys h = go (p x) (any_right p xs ys h)
  where
    go : (b : Bool) → any p (xs ++ ys) ≡ true → (when b then true else any p (xs ++ ys)) ≡ true
    go true e = refl
    go false e = e

any_later : (p : SemanticAction → Bool) (x : SemanticAction) (xs : List SemanticAction) → any p xs ≡ true → any p (x ∷ xs) ≡ true
any_later p x xs h = any_right p (x ∷ []) xs h

abbrev pub build_of : ℕ → SemanticAction
build_of i = record { kind = ActionKind.Build; number = i; inputs = []; output = none }

own_build : (i : ℕ) (xs : List SemanticAction) → any (builds i) (build_of i ∷ xs) ≡ true
unfolding any builds is_build
own_build i xs = rw (same i)

-- what holds of the Builds in front of a list, if it holds of each Build below j + n
module _ (P : List SemanticAction → Type 0) (bound : ℕ)
    (more : (i : ℕ) (xs : List SemanticAction) → i < bound → P xs → P (build_of i ∷ xs)) where
  pub with_builds : (xs ys : List SemanticAction) (j n : ℕ) → j + n ≤ bound → P ys → P (implicit_builds xs j n ++ ys)
  unfolding implicit_builds
  with_builds xs ys j zero h p = p
  with_builds xs ys j (suc n) h p = go (any (builds j) xs) (with_builds xs ys (suc j) n (omega arith) p)
    where
      go : (b : Bool) → P (implicit_builds xs (suc j) n ++ ys)
          → P ((when b then implicit_builds xs (suc j) n else build_of j ∷ implicit_builds xs (suc j) n) ++ ys)
      go true p = p
      go false p = more j (implicit_builds xs (suc j) n ++ ys) (omega arith) p

built_each : (xs ys : List SemanticAction) (j n i : ℕ) → (any (builds i) xs ≡ true → any (builds i) ys ≡ true) → j ≤ i → i < j + n
    → any (builds i) (implicit_builds xs j n ++ ys) ≡ true
unfolding implicit_builds
built_each xs ys j zero i h p q = absurd (omega arith)
built_each xs ys j (suc n) i h p q = go (eqb i j) refl (any (builds j) xs) refl (λ k. built_each xs ys (suc j) n i h k (omega arith))
  where
    rest : List SemanticAction
    rest = implicit_builds xs (suc j) n

    onward : (b : Bool) → any (builds i) (rest ++ ys) ≡ true → any (builds i) ((when b then rest else build_of j ∷ rest) ++ ys) ≡ true
    onward true e = e
    onward false e = any_later (builds i) (build_of j) (rest ++ ys) e

    go : (c : Bool) → eqb i j ≡ c → (b : Bool) → any (builds j) xs ≡ b → (suc j ≤ i → any (builds i) (rest ++ ys) ≡ true)
        → any (builds i) ((when b then rest else build_of j ∷ rest) ++ ys) ≡ true
    go false c b d r = onward b (r (let k = eqb-false i j c in omega arith))
    go true c true d r = let k : i ≡ j = eqb-true i j c in any_right (builds i) rest ys (h (rw k d))
    go true c false d r = let k : i ≡ j = eqb-true i j c in rw k (own_build j (rest ++ ys))

pub built_below : (actions : List SemanticAction) (n : ℕ) → ((i : ℕ) → i < n → any (builds i) actions ≡ true) → all_built actions n ≡ true
unfolding all_built
built_below actions zero h = refl
built_below actions (suc n) h = both (h n (omega arith)) (built_below actions n (λ i k. h i (omega arith)))

pub all_built_lem : (xs ys : List SemanticAction) (n : ℕ) → SameHeads xs ys → all_built (implicit_builds xs 0 n ++ ys) n ≡ true
all_built_lem xs ys n r = built_below _ n (λ i k. built_each xs ys 0 n i (λ e. same-builds i xs ys r ∙ e) (omega arith) (omega arith))

pub labels_once_lem : (xs ys : List SemanticAction) (n : ℕ) → SameHeads xs ys → Distinct (label_numbers xs)
    → labels_once (implicit_builds xs 0 n ++ ys) ≡ true
unfolding label_numbers place placing or_else and_then operation_of
labels_once_lem xs ys n r d = distinct_once _ (with_builds (λ zs. Distinct (label_numbers zs)) n (λ i zs k p. unplaced i zs p) xs ys 0 n
    (omega arith) (subst Distinct (sym (same-labels xs ys r)) d))
  where
    unplaced : (i : ℕ) (zs : List SemanticAction) → Distinct (label_numbers zs) → Distinct (label_numbers (build_of i ∷ zs))
    unplaced i zs p = p

pub build_laid : (t sub i : ℕ) → i < sub → Laid t sub (build_of i)
unfolding shape_of counts_fit same_count is_some any all option_fits base_fits
build_laid t sub i h = record {
  shaped = record { shape = record { counts = (0, false) ∷ []; below = sub }; is = refl; counts = refl; number = h };
  inputs = refl;
  output = refl;
  base = refl;
}

pub builds_fit : (t sub : ℕ) (xs ys : List SemanticAction) → all (layout_fits t sub) ys ≡ true
    → all (layout_fits t sub) (implicit_builds xs 0 sub ++ ys) ≡ true
builds_fit t sub xs ys h = with_builds (λ zs. all (layout_fits t sub) zs ≡ true) sub
    (λ i zs k p. all_cons (layout_fits t sub) (build_of i) zs (laid_fits t sub (build_of i) (build_laid t sub i k)) p) xs ys 0 sub
    (omega arith) h

build-sized : (p i : ℕ) → sizes_hold p (build_of i) ≡ true
unfolding sizes_hold operation_holds operation_of
build-sized p i = refl

pub builds_hold : (p : ℕ) (xs ys : List SemanticAction) (n : ℕ) → all (sizes_hold p) ys ≡ true
    → all (sizes_hold p) (implicit_builds xs 0 n ++ ys) ≡ true
builds_hold p xs ys n h = with_builds (λ zs. all (sizes_hold p) zs ≡ true) n
    (λ i zs k q. all_cons (sizes_hold p) (build_of i) zs (build-sized p i) q) xs ys 0 n (omega arith) h

pub builds_length : (xs ys : List SemanticAction) (j n : ℕ) → length (implicit_builds xs j n ++ ys) ≤ n + length ys
unfolding implicit_builds
builds_length xs ys j zero = omega arith
builds_length xs ys j (suc n) = go (any (builds j) xs) (builds_length xs ys (suc j) n)
  where
    go : (b : Bool) → length (implicit_builds xs (suc j) n ++ ys) ≤ n + length ys
        → length ((when b then implicit_builds xs (suc j) n else build_of j ∷ implicit_builds xs (suc j) n) ++ ys) ≤ suc n + length ys
    go true h = omega arith
    go false h = omega arith
