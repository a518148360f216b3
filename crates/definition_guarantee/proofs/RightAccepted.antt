-- A list for which the checker's conditions hold is accepted.
use Prim.Native.Nat.{ℕ, zero, suc, ◌*◌, ◌-◌, ◌≤◌}
use mathlib.Core.Path.{◌≡◌, refl, sym, ◌∙◌, ap, subst}
use mathlib.Core.Bool.{Bool, true, false, ◌&&◌, not}
use mathlib.Core.List.{List, [], ◌∷◌, ◌++◌}
use mathlib.Core.Option.{Option, none, some}
use native.Mathlib.Omega.{arith}
use lib.ListN.{length, get_elem?, replicate, length-append}
use Rattle.prelude.specs.Base.{when◌then◌else◌, or_else, and_then, is_some, any, all, first, contains}
use Rattle.definition.specs.Operations.{Operation, operation_number, is_op}
use Rattle.definition.specs.Value.{Kind, Value, ActionKind, SemanticAction, operation_of}
use Rattle.definition.specs.Sizes.{Operand, Step, equal, exactly, by_default, rule_of, steps_of, at, fixed_size}
use Rattle.definition.specs.End.{is_build, builds}
use Rattle.definition.specs.ActionList.{filled, action_words, list_words, places_label}
use Rattle.definition.specs.Checker.{same_count, counts_fit, option_fits, number_fits, value_fits, plain_base, base_fits, layout_fits, is_sized, size_at, has_size, all_have_size, step_holds, operation_holds, sizes_hold, places, labels_once, operation_numbered, check}
use Rattle.std.proofs.lemmas.Bool.{eqb-true, eq-eqb, ne_eqb, lt-ltb}
use Rattle.std.proofs.lemmas.List.{append-nil}
use Rattle.definition_guarantee.proofs.Tests.{never, same, and_true, both, all_from, first_from, then_some, any_from, none_some, some_same}
use Rattle.definition_guarantee.proofs.Words.{parts_fit, laid_fits, filled_append, action_length, numbered, words-pass}
use Rattle.definition.specs.Right.{Among, input, output, NumberWithin, ValueWithin, ActionRight, Right}
use Rattle.definition_guarantee.proofs.Kept.{option_small}
use Rattle.definition_guarantee.proofs.WholeList.{built_below}

pub any_at : {A : Type 0} (p : A → Bool) (xs : List A) (i : ℕ) (x : A) → get_elem? xs i ≡ some x → p x ≡ true → any p xs ≡ true
unfolding any
any_at p [] i x e h = none_some {x = none} refl e
any_at {A} p (y ∷ xs) zero x e h = rw (subst (λ (z : A). p z ≡ true) (sym (some_same e)) h)
any_at p (y ∷ xs) (suc i) x e h = go (p y) (any_at p xs i x e h)
  where
    go : (b : Bool) → any p xs ≡ true → (when b then true else any p xs) ≡ true
    go true d = refl
    go false d = d

within_number : (t sub : ℕ) (k : Kind) (n : ℕ) → NumberWithin t sub k n → number_fits t sub k n ≡ true
unfolding number_fits NumberWithin
within_number t sub Kind.InstStart n h = eq-eqb n 0 h
within_number t sub Kind.InstNext n h = eq-eqb n 0 h
within_number t sub Kind.Register n h = refl
within_number t sub Kind.Field n h = refl
within_number t sub Kind.Subtable n h = lt-ltb n sub h
within_number t sub Kind.SubtableRef n h = lt-ltb n sub h
within_number t sub Kind.PcodeTmp n h = lt-ltb n t h
within_number t sub Kind.Constant n h = refl

within_value : (t sub : ℕ) (v : Value) → ValueWithin t sub v → value_fits t sub v ≡ true
within_value t sub v f = parts_fit (record {
  number = within_number t sub v.kind v.number f.number;
  offset = f.offset;
  size = option_small v.size (λ z e. omega (arith, f.size z e));
})

option_from : {A : Type 0} (p : A → Bool) (o : Option A) → ((v : A) → o ≡ some v → p v ≡ true) → option_fits p o ≡ true
unfolding option_fits
option_from p none h = refl
option_from p (some u) h = h u refl

counts_same : (n : ℕ) (x : Bool) → same_count (n, x) (n, x) ≡ true
unfolding same_count
counts_same n true = both (same n) refl
counts_same n false = both (same n) refl

base-plain : (v : Value) → (v.size ≡ none) × (v.offset ≡ 0) → plain_base v ≡ true
unfolding plain_base is_some
base-plain v h = both (ap (λ (z : Option ℕ). not (is_some z)) h.0) (eq-eqb v.offset 0 h.1)

bases_fit : (k : ActionKind) (vs : List Value) → (k ≡ ActionKind.AddressOf → all plain_base vs ≡ true) → base_fits k vs ≡ true
unfolding base_fits
bases_fit (ActionKind.Op op) vs h = refl
bases_fit ActionKind.AddressOf vs h = h refl
bases_fit ActionKind.LoadRegister vs h = refl
bases_fit ActionKind.StoreRegister vs h = refl
bases_fit ActionKind.DelaySlot vs h = refl
bases_fit ActionKind.Build vs h = refl

there_size : (z : Option ℕ) (n : ℕ) → z ≡ some n → is_some z ≡ true
unfolding is_some
there_size z n e = rw e

size_has : (n : ℕ) (x : Option Value) → ((v : Value) → x ≡ some v → v.size ≡ some n) → has_size n x ≡ true
unfolding has_size contains
size_has n none h = refl
size_has n (some u) h = rw (h u refl) (same n)

sizes-equal : (pointer : ℕ) (a : SemanticAction) (ps : List Operand)
    → ((p q : Operand) (v u : Value) → Among p ps → Among q ps → at p a ≡ some v → at q a ≡ some u → v.size ≡ u.size)
    → step_holds pointer a (equal ps) ≡ true
unfolding step_holds all_have_size size_at
sizes-equal pointer a ps h = go (first (size_at a) ps) refl
  where
    go : (x : Option ℕ) → first (size_at a) ps ≡ x → all_have_size a ps x ≡ true
    go none c = refl
    go (some n) c =
        let f = first_from (size_at a) ps n c in
        let s = then_some (at f.1 a) (λ (v : Value). v.size) n f.3 in
        all_from (λ p. has_size n (at p a)) ps (λ i p d. size_has n (at p a)
        (λ v k. h p f.1 v s.0 (i, d) (f.0, f.2) k s.1 ∙ s.2))

module _ (t sub pointer : ℕ) where
  action-fits : (a : SemanticAction) → ActionRight t sub pointer a → layout_fits t sub a ≡ true
  unfolding counts_fit
  action-fits a r = laid_fits t sub a (record {
    shaped = record {
      shape = r.shape.shape;
      is = r.shape.is;
      counts =
          any_at (same_count (length a.inputs, is_some a.output)) r.shape.shape.counts r.shape.counts.0 _
          r.shape.counts.1 (counts_same _ _);
      number = r.shape.number;
    };
    inputs = all_from (value_fits t sub) a.inputs (λ i v e. within_value t sub v (r.operands v (input (i, e))));
    output = option_from (value_fits t sub) a.output (λ v e. within_value t sub v (r.operands v (output e)));
    base = bases_fit a.kind a.inputs (λ e. all_from plain_base a.inputs (λ i v d. base-plain v (r.bases v e (i, d))));
  })

  action-holds : (a : SemanticAction) (k : ActionKind) → a.kind ≡ k → ActionRight t sub pointer a
      → operation_holds pointer (operation_of k) a ≡ true
  unfolding operation_of operation_holds steps_of step_holds is_sized
  action-holds a (ActionKind.Op op) e r =
      both (both (all_from is_sized a.inputs (λ i v d. let z = r.sizes op v e (input (i, d)) in there_size v.size z.0 z.1))
      (option_from is_sized a.output (λ v d. let z = r.sizes op v e (output d) in there_size v.size z.0 z.1)))
      (all_from (step_holds pointer a) (rule_of op) (λ i x d. step x (i, d)))
    where
      step : (x : Step) → Among x (rule_of op) → step_holds pointer a x ≡ true
      step (equal ps) i = sizes-equal pointer a ps (λ p q v u ip iq c d. r.equal_sizes op ps p q v u e i ip iq c d)
      step (exactly p z) i = size_has (fixed_size pointer z) (at p a) (λ v d. r.fixed_sizes op p z v e i d)
      step (by_default p z) i = refl
  action-holds a ActionKind.AddressOf e r = refl
  action-holds a ActionKind.LoadRegister e r = refl
  action-holds a ActionKind.StoreRegister e r = refl
  action-holds a ActionKind.DelaySlot e r = refl
  action-holds a ActionKind.Build e r = refl

  action-sizes : (a : SemanticAction) → ActionRight t sub pointer a → sizes_hold pointer a ≡ true
  unfolding sizes_hold
  action-sizes a r = action-holds a a.kind refl r

label_number_lem : (op : Operation) → is_op Operation.PcodeLabel op ≡ true → op ≡ Operation.PcodeLabel
unfolding operation_number
label_number_lem op h =
    let n : operation_number op ≡ 62 = sym (eqb-true 62 (operation_number op) h) in
    let d : operation_numbered (operation_number op) ≡ some op = numbered op (ne_eqb (operation_number op) 66 (λ k. absurd (omega arith))) in
    some_same (sym d ∙ ap operation_numbered n ∙ numbered Operation.PcodeLabel refl)

is_label : (k : ActionKind) → or_else false (and_then (operation_of k) λ operation. some (is_op Operation.PcodeLabel operation)) ≡ true
    → k ≡ ActionKind.Op Operation.PcodeLabel
unfolding or_else and_then operation_of
is_label (ActionKind.Op op) h = ap ActionKind.Op (label_number_lem op h)
is_label ActionKind.AddressOf h = never h
is_label ActionKind.LoadRegister h = never h
is_label ActionKind.StoreRegister h = never h
is_label ActionKind.DelaySlot h = never h
is_label ActionKind.Build h = never h

label-places : (a : SemanticAction) → places_label a ≡ true → a.kind ≡ ActionKind.Op Operation.PcodeLabel
unfolding places_label
label-places a h = is_label a.kind h

abbrev pub Once : List SemanticAction → Type 0
Once xs = (i j : ℕ) (a b : SemanticAction) → get_elem? xs i ≡ some a → get_elem? xs j ≡ some b → places_label a ≡ true → places_label b ≡ true
    → a.number ≡ b.number → i ≡ j

nowhere : (b c : Bool) → (b ≡ true → c ≡ true → ⊥) → not (b && c) ≡ true
nowhere true true h = absurd (h refl refl)
nowhere true false h = refl
nowhere false c h = refl

at_once : (xs : List SemanticAction) → Once xs → labels_once xs ≡ true
unfolding labels_once places
at_once [] h = refl
at_once (x ∷ xs) h = both (nowhere (places_label x) (any (places x.number) xs) (λ p q. clashes p (any_from (places x.number) xs q)))
    (at_once xs (λ i j a b d e p q n. pred_same (h (suc i) (suc j) a b d e p q n)))
  where
    pred_same : {i j : ℕ} → suc i ≡ suc j → i ≡ j
    pred_same {i} {j} e = omega arith

    clashes : places_label x ≡ true → ((j : ℕ) × (b : SemanticAction) × (get_elem? xs j ≡ some b) × (places x.number b ≡ true)) → ⊥
    clashes p c =
        let k = and_true _ _ c.3 in
        let e : 0 ≡ suc c.0 = h 0 (suc c.0) x c.1 refl c.2 p k.0 (eqb-true _ _ k.1) in
        omega arith

of_builds : (m : ℕ) (a : SemanticAction) → a.kind ≡ ActionKind.Build → a.number ≡ m → builds m a ≡ true
unfolding builds is_build
of_builds m a k n = rw (k, n) (same m)

pub list_length : (xs : List SemanticAction) → length (list_words xs) ≡ 24 * length xs
unfolding list_words
list_length [] = refl
list_length (a ∷ xs) = length-append (action_words a) (list_words xs) ∙ (let h = action_length a in let r = list_length xs in omega arith)

pub zeros : (n : ℕ) → filled n [] ≡ replicate n 0
unfolding filled
zeros zero = refl
zeros (suc n) = ap (λ (l : List ℕ). 0 ∷ l) (zeros n)

-- the actions' words, and zero behind
pub padded : (xs : List SemanticAction) (n : ℕ) → 24 * length xs ≤ n
    → filled n (list_words xs) ≡ list_words xs ++ replicate (n - 24 * length xs) 0
padded xs n h =
    let c = list_length xs in
    ap (filled n) (sym (append-nil (list_words xs))) ∙ filled_append (list_words xs) [] n (n - 24 * length xs) (omega arith)
    ∙ ap (λ (l : List ℕ). list_words xs ++ l) (zeros (n - 24 * length xs))

module _ (ws : List ℕ) (n t sub pointer : ℕ) where
  pub right_accepted : Right ws n t sub pointer → check ws n t sub pointer ≡ true
  right_accepted r =
      let xs : List SemanticAction = r.actions in
      let c = r.count in
      let fits = r.fits in
      let fit : 24 * length xs ≤ length ws = rw r.count r.fits in
      let words : ws ≡ list_words xs ++ replicate (length ws - 24 * n) 0 = r.words in
      let written : filled (length ws) (list_words xs) ≡ ws =
      padded xs (length ws) fit ∙ ap (λ (m : ℕ). list_words xs ++ replicate (length ws - 24 * m) 0) r.count ∙ sym words in
      let passes : check (filled (length ws) (list_words xs)) (length xs) t sub pointer ≡ true =
      words-pass t sub xs (length ws) pointer fit
      (all_from (layout_fits t sub) xs (λ i a e. action-fits t sub pointer a (r.each i a e)))
      (all_from (sizes_hold pointer) xs (λ i a e. action-sizes t sub pointer a (r.each i a e)))
      (at_once xs (λ i j a b d e u v m. r.labels_once i j a b d e (label-places a u) (label-places b v) m))
      (built_below xs sub (λ m l. let z = r.all_built m l in
      any_at (builds m) xs z.1.0 z.0 z.1.1 (of_builds m z.0 z.2 z.3))) in
      subst (λ (m : ℕ). check ws m t sub pointer ≡ true) r.count
      (subst (λ (l : List ℕ). check l (length xs) t sub pointer ≡ true) written passes)
