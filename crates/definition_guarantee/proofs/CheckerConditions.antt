-- The checker accepts a list exactly when its conditions hold.
use Prim.Native.Nat.{ℕ, zero, suc, ◌*◌, ◌-◌, ◌≤◌, ◌<◌}
use mathlib.Core.Path.{◌≡◌, refl, sym, ◌∙◌, ap, subst}
use mathlib.Core.Bool.{Bool, true, false, ◌&&◌, not}
use mathlib.Core.List.{List, [], ◌∷◌, ◌++◌}
use mathlib.Core.Option.{Option, none, some}
use native.Mathlib.Omega.{arith}
use lib.Dec.{eqb, leb}
use lib.ListN.{length, get_elem?, replicate, take, drop}
use Rattle.prelude.specs.Base.{or_else, and_then, is_some, any, all, first}
use Rattle.definition.specs.Operations.{Operation, operation_number}
use Rattle.definition.specs.Value.{Kind, Value, ActionKind, SemanticAction, operation_of}
use Rattle.definition.specs.Sizes.{Operand, equal, exactly, rule_of, steps_of, at, fixed_size}
use Rattle.definition.specs.End.{is_build, builds}
use Rattle.definition.specs.ActionList.{filled, list_words, places_label}
use Rattle.definition.specs.Checker.{shape_of, same_count, counts_fit, option_fits, number_fits, value_fits, plain_base, base_fits, layout_fits, is_sized, size_at, has_size, all_have_size, step_holds, operation_holds, sizes_hold, places, labels_once, all_built, list_holds, action_from, actions_from, check}
use Rattle.std.proofs.lemmas.Bool.{eqb-true, eq-eqb, eqb-false, leb-true, ltb-true}
use Rattle.definition_guarantee.proofs.Tests.{clash, never, same, and_true, both, if_true, all_at, then_some, or_true, list_same, any_from, first_none, none_some, some_same}
use Rattle.definition_guarantee.proofs.Words.{fits_parts, Shaped, Laid, laid, subpiece_shapeless}
use Rattle.definition.specs.Right.{Among, IsOperand, input, output, NumberWithin, ValueWithin, ActionRight, Right}
use Rattle.definition_guarantee.specs.Guarantee.{AcceptsExactly}
use Rattle.definition_guarantee.proofs.Rules.{is_size}
use Rattle.definition_guarantee.proofs.RightAccepted.{any_at, Once, padded, right_accepted}

number_within : (t sub : ℕ) (k : Kind) (n : ℕ) → number_fits t sub k n ≡ true → NumberWithin t sub k n
unfolding number_fits NumberWithin
number_within t sub Kind.InstStart n h = eqb-true n 0 h
number_within t sub Kind.InstNext n h = eqb-true n 0 h
number_within t sub Kind.Register n h = tt
number_within t sub Kind.Field n h = tt
number_within t sub Kind.Subtable n h = ltb-true n sub h
number_within t sub Kind.SubtableRef n h = ltb-true n sub h
number_within t sub Kind.PcodeTmp n h = ltb-true n t h
number_within t sub Kind.Constant n h = tt

size_within : (z : Option ℕ) (n : ℕ) → or_else 0 z < 65535 → z ≡ some n → n < 65535
unfolding or_else
size_within none n h e = none_some {x = none} refl e
size_within (some m) n h e = rw (sym (some_same e)) h

value_within : (t sub : ℕ) (v : Value) → value_fits t sub v ≡ true → ValueWithin t sub v
value_within t sub v h = let f = fits_parts {t = t} {sub = sub} {v = v} h in
    record {
      number = number_within t sub v.kind v.number f.number;
      offset = f.offset;
      size = λ z e. size_within v.size z f.size e;
    }

option_at : {A : Type 0} (p : A → Bool) (o : Option A) (v : A) → option_fits p o ≡ true → o ≡ some v → p v ≡ true
unfolding option_fits
option_at p none v h e = none_some {x = none} refl e
option_at {A} p (some u) v h e = subst (λ (x : A). p x ≡ true) (some_same e) h

same-counts : (n m : ℕ) (x y : Bool) → same_count (n, x) (m, y) ≡ true → ◌≡◌ {A = ℕ × Bool} (m, y) (n, x)
unfolding same_count
same-counts n m true true h = let e = eqb-true n m (and_true _ _ h).0 in rw e
same-counts n m true false h = never (and_true (eqb n m) _ h).1
same-counts n m false true h = never (and_true (eqb n m) _ h).1
same-counts n m false false h = let e = eqb-true n m (and_true _ _ h).0 in rw e

plain-base : (v : Value) → plain_base v ≡ true → (v.size ≡ none) × (v.offset ≡ 0)
unfolding plain_base is_some
plain-base v h = let k = and_true _ _ h in (go v.size k.0, eqb-true v.offset 0 k.1)
  where
    go : (z : Option ℕ) → not (is_some z) ≡ true → z ≡ none
    go none e = refl
    go (some n) e = never e

fit_bases : (k : ActionKind) (vs : List Value) → base_fits k vs ≡ true → k ≡ ActionKind.AddressOf → all plain_base vs ≡ true
unfolding base_fits
fit_bases k vs h e = rw e at h

size_there : (z : Option ℕ) → is_some z ≡ true → (n : ℕ) × (z ≡ some n)
unfolding is_some
size_there none h = never h
size_there (some n) h = (n, refl)

has_size_lem : (n : ℕ) (x : Option Value) (v : Value) → has_size n x ≡ true → x ≡ some v → v.size ≡ some n
unfolding has_size
has_size_lem n none v h e = none_some {x = none} refl e
has_size_lem n (some u) v h e = subst (λ (y : Value). y.size ≡ some n) (some_same e) (is_size n u.size h)

size_at_lem : (a : SemanticAction) (p : Operand) (v : Value) → at p a ≡ some v → size_at a p ≡ v.size
unfolding size_at and_then
size_at_lem a p v e = rw e

-- operands of an equal group have one size
equal-sizes : (pointer : ℕ) (a : SemanticAction) (ps : List Operand) (p q : Operand) (v u : Value) → step_holds pointer a (equal ps) ≡ true
    → Among p ps → Among q ps → at p a ≡ some v → at q a ≡ some u → v.size ≡ u.size
unfolding step_holds all_have_size
equal-sizes pointer a ps p q v u h i j d e = go (first (size_at a) ps) refl h
  where
    go : (x : Option ℕ) → first (size_at a) ps ≡ x → all_have_size a ps x ≡ true → v.size ≡ u.size
    go none c h = sym (size_at_lem a p v d) ∙ first_none (size_at a) ps i.0 p c i.1 ∙ sym (first_none (size_at a) ps j.0 q c j.1)
        ∙ size_at_lem a q u e
    go (some n) c h = has_size_lem n (at p a) v (all_at (λ p. has_size n (at p a)) ps i.0 p h i.1) d
        ∙ sym (has_size_lem n (at q a) u (all_at (λ p. has_size n (at p a)) ps j.0 q h j.1) e)

op_kind : (k : ActionKind) (op : Operation) → k ≡ ActionKind.Op op → operation_of k ≡ some op
unfolding operation_of
op_kind k op e = rw e

module _ (t sub pointer : ℕ) where
  op-holds : (a : SemanticAction) (op : Operation) → a.kind ≡ ActionKind.Op op → sizes_hold pointer a ≡ true
      → operation_holds pointer (some op) a ≡ true
  unfolding sizes_hold
  op-holds a op e h = subst (λ (o : Option Operation). operation_holds pointer o a ≡ true) (op_kind a.kind op e) h

  op-sizes : (a : SemanticAction) (op : Operation) → operation_holds pointer (some op) a ≡ true
      → ((v : Value) → IsOperand a v → (z : ℕ) × (v.size ≡ some z)) × (all (step_holds pointer a) (rule_of op) ≡ true)
  unfolding operation_holds steps_of is_sized
  op-sizes a op h = let k = and_true _ _ h in let j = and_true _ _ k.0 in ((λ v o. go v o j.0 j.1), k.1)
    where
      go : (v : Value) → IsOperand a v → all is_sized a.inputs ≡ true → option_fits is_sized a.output ≡ true
          → (z : ℕ) × (v.size ≡ some z)
      go v (input (i)) h k = size_there v.size (all_at is_sized a.inputs i.0 v h i.1)
      go v (output e) h k = size_there v.size (option_at is_sized a.output v k e)

  right_action : (a : SemanticAction) → layout_fits t sub a ≡ true → sizes_hold pointer a ≡ true → ActionRight t sub pointer a
  unfolding counts_fit step_holds operation_number
  right_action a h k = record {
    shape = record {
      shape = s.shape;
      is = s.is;
      counts = (c.0, c.2 ∙ ap some (same-counts (length a.inputs) c.1.0 (is_some a.output) c.1.1 c.3));
      number = s.number;
    };
    operands = λ v o. operand v o;
    bases = λ v e i. plain-base v (all_at plain_base a.inputs i.0 v (fit_bases a.kind a.inputs l.base e) i.1);
    sizes = λ op v e o. (op-sizes a op (op-holds a op e k)).0 v o;
    equal_sizes = λ op ps p q v u e i ip iq d f. equal-sizes pointer a ps p q v u
        (all_at (step_holds pointer a) (rule_of op) i.0 (equal ps) (op-sizes a op (op-holds a op e k)).1 i.1) ip iq d f;
    fixed_sizes = λ op p z v e i d. has_size_lem (fixed_size pointer z) (at p a) v
        (all_at (step_holds pointer a) (rule_of op) i.0 (exactly p z) (op-sizes a op (op-holds a op e k)).1 i.1) d;
    no_subpiece = λ e. clash refl (subpiece_shapeless t sub Operation.Subpiece s.shape (ap (shape_of t sub) (sym e) ∙ s.is)
        (eqb (operation_number Operation.Subpiece) 66) refl);
  }
    where
      l : Laid t sub a
      l = laid t sub a h

      s : Shaped t sub a
      s = l.shaped

      c : (i : ℕ) × (x : ℕ × Bool) × (get_elem? s.shape.counts i ≡ some x) ×
          (same_count (length a.inputs, is_some a.output) x ≡ true)
      c = any_from (same_count (length a.inputs, is_some a.output)) s.shape.counts s.counts

      operand : (v : Value) → IsOperand a v → ValueWithin t sub v
      operand v (input i) = value_within t sub v (all_at (value_fits t sub) a.inputs i.0 v l.inputs i.1)
      operand v (output e) = value_within t sub v (option_at (value_fits t sub) a.output v l.output e)

places-label : (a : SemanticAction) → a.kind ≡ ActionKind.Op Operation.PcodeLabel → places_label a ≡ true
unfolding places_label or_else and_then operation_of
places-label a e = rw e (same (operation_number Operation.PcodeLabel))

not_both : (b c : Bool) → not (b && c) ≡ true → b ≡ true → c ≡ true → ⊥
not_both true true h d e = never h
not_both true false h d e = never e
not_both false c h d e = never d

once_at : (xs : List SemanticAction) → labels_once xs ≡ true → Once xs
unfolding labels_once places
once_at [] h i j a b d e p q n = none_some {x = none} refl d
once_at (x ∷ xs) h zero zero a b d e p q n = refl
once_at (x ∷ xs) h zero (suc j) a b d e p q n =
    let c : x ≡ a = some_same d in
    absurd (not_both (places_label x) (any (places x.number) xs) (and_true _ _ h).0
    (subst (λ (y : SemanticAction). places_label y ≡ true) (sym c) p)
    (any_at (places x.number) xs j b e (both q (eq-eqb x.number b.number (ap (λ (y : SemanticAction). y.number) c ∙ n)))))
once_at (x ∷ xs) h (suc i) zero a b d e p q n =
    let c : x ≡ b = some_same e in
    absurd (not_both (places_label x) (any (places x.number) xs) (and_true _ _ h).0
    (subst (λ (y : SemanticAction). places_label y ≡ true) (sym c) q)
    (any_at (places x.number) xs i a d (both p (eq-eqb x.number a.number (ap (λ (y : SemanticAction). y.number) c ∙ sym n)))))
once_at (x ∷ xs) h (suc i) (suc j) a b d e p q n =
    ap suc (once_at xs (and_true (not (places_label x && any (places x.number) xs)) _ h).1 i j a b d e p q n)

is_build_lem : (k : ActionKind) → is_build k ≡ true → k ≡ ActionKind.Build
unfolding is_build
is_build_lem (ActionKind.Op op) h = never h
is_build_lem ActionKind.AddressOf h = never h
is_build_lem ActionKind.LoadRegister h = never h
is_build_lem ActionKind.StoreRegister h = never h
is_build_lem ActionKind.DelaySlot h = never h
is_build_lem ActionKind.Build h = refl

builds_of : (m : ℕ) (a : SemanticAction) → builds m a ≡ true → (a.kind ≡ ActionKind.Build) × (a.number ≡ m)
unfolding builds
builds_of m a h = let k = if_true (is_build a.kind) (eqb m a.number) h in
    (is_build_lem a.kind k.0, sym (eqb-true m a.number k.1))

built_at : (xs : List SemanticAction) (n m : ℕ) → all_built xs n ≡ true → m < n → any (builds m) xs ≡ true
unfolding all_built
built_at xs zero m h l = absurd (omega arith)
built_at xs (suc n) m h l = go (eqb m n) refl (built_at xs n m)
  where
    k : (any (builds n) xs ≡ true) × (all_built xs n ≡ true)
    k = and_true (any (builds n) xs) (all_built xs n) h

    go : (b : Bool) → eqb m n ≡ b → (all_built xs n ≡ true → m < n → any (builds m) xs ≡ true) → any (builds m) xs ≡ true
    go true d r = subst (λ (i : ℕ). any (builds i) xs ≡ true) (sym (eqb-true m n d)) k.0
    go false d r = r k.1 (let q = eqb-false m n d in omega arith)

found_length : (n : ℕ) (ws : List ℕ) (xs : List SemanticAction) → actions_from n ws ≡ some xs → length xs ≡ n
unfolding actions_from
found_length zero ws xs e = let d : [] ≡ xs = some_same e in ap length (sym d)
found_length (suc n) ws xs e =
    let p = then_some (action_from (take 24 ws)) _ xs e in
    let q = then_some (actions_from n (drop 24 ws)) _ xs p.2 in
    let d : p.0 ∷ q.0 ≡ xs = some_same q.2 in
    ap length (sym d) ∙ ap suc (found_length n (drop 24 ws) q.0 q.1)

module _ (ws : List ℕ) (n t sub pointer : ℕ) where
  pub accepted_right : check ws n t sub pointer ≡ true → Right ws n t sub pointer
  unfolding check list_holds
  accepted_right h =
      let b = if_true (leb (24 * n) (length ws)) _ h in
      let f = then_some (actions_from n ws) _ true (or_true _ b.1) in
      let xs : List SemanticAction = f.0 in
      let p = and_true _ _ (some_same f.2) in
      let q = and_true _ _ p.0 in
      let r = and_true _ _ q.0 in
      let s = and_true _ _ r.0 in
      let c : length xs ≡ n = found_length n ws xs f.1 in
      let fits : 24 * n ≤ length ws = leb-true (24 * n) (length ws) b.0 in
      let written : ws ≡ filled (length ws) (list_words xs) = list_same ws _ s.0 in
      let fit : 24 * length xs ≤ length ws = rw c fits in
      record {
        actions = xs;
        count = c;
        fits = fits;
        words = written ∙ padded xs (length ws) fit ∙ ap (λ (m : ℕ). list_words xs ++ replicate (length ws - 24 * m) 0) c;
        each = λ i a e. right_action t sub pointer a (all_at (layout_fits t sub) xs i a s.1 e)
            (all_at (sizes_hold pointer) xs i a r.1 e);
        labels_once = λ i j a d e k u v m. once_at xs q.1 i j a d e k (places-label a u) (places-label d v) m;
        all_built = λ m l. let z = any_from (builds m) xs (built_at xs sub m p.1 l) in let k = builds_of m z.1 z.3 in
            (z.1, (z.0, z.2), k.0, k.1);
      }

pub accepts_exactly : AcceptsExactly
accepts_exactly ws n t sub pointer = (accepted_right ws n t sub pointer, right_accepted ws n t sub pointer)
