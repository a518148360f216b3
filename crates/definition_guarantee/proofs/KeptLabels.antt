-- Labels and macros keep the state in order: a label is placed once, and a macro places only numbers of its own.
use Prim.Native.Nat.{ℕ, suc, ◌+◌, ◌≤◌, ◌<◌}
use mathlib.Core.Path.{◌≡◌, refl, sym, ◌∙◌, ap, subst}
use mathlib.Core.Logic.{◌≢◌, ◌⊎◌, inl, inr}
use mathlib.Core.Bool.{Bool, true, false, not}
use mathlib.Core.List.{List, [], ◌∷◌, ◌++◌}
use mathlib.Core.Option.{Option, none, some}
use native.Mathlib.Omega.{arith}
use lib.Dec.{eqb, leb}
use lib.ListN.{length, length-append}
use Rattle.prelude.specs.Base.{when◌then◌else◌, ◌or◌, or_else, and_then, is_some, first}
use Rattle.definition.specs.Refusals.{list_full, redeclared, too_many_labels, label_twice}
use Rattle.definition.specs.Operations.{Operation, operation_number}
use Rattle.definition.specs.Value.{Value, ActionKind, SemanticAction, operation_of}
use Rattle.definition.specs.Ast.{Statement, Macro}
use Rattle.definition.specs.Sizes.{update_operand_sizes}
use Rattle.definition.specs.Walk.{ExprValue, Label, State, Env, Outcome, done, stopped, on, Walk, pure, require, with_scope, with_label, with_sizing, with_action, push, push_op, op_no_output}
use Rattle.definition.specs.Scope.{find, put_entry, named_tmp, with_entry, label_or, get_or_insert_label, resolve_label, bind_params, macro_scope}
use Rattle.definition.specs.Statements.{enter_macro}
use Rattle.definition_guarantee.specs.Tests.{Each}
use Rattle.std.proofs.lemmas.Bool.{leb-true, eqb-true, eqb-false}
use Rattle.definition_guarantee.proofs.Tests.{clash, same, each_append, In, none_some, some_same}
use Rattle.definition_guarantee.proofs.Entries.{find-put}
use Rattle.definition_guarantee.proofs.Layouts.{Rough, laid_out}
use Rattle.definition_guarantee.proofs.WholeList.{placing, place, label_numbers, Distinct, numbers_append}
use Rattle.definition_guarantee.specs.Limits.{SizeWithin, WithinLimits}
use Rattle.definition_guarantee.proofs.Kept.{fits_more, ValueFits, ExprFits, count, labelled, LabelsFit, Kept, Guarded, Later, later_refl, later_trans, Ends, Keeps, keep_bind, exprs_more}
use Rattle.definition_guarantee.proofs.Pushes.{scope_more, keep_add_tmp, keep_update, applied}
use Rattle.definition_guarantee.proofs.Shapes.{label_applies}

-- the entry that was put, or another under another name
found : {A : Type 0} (n m : ℕ) (l k : A) (xs : List (ℕ × A)) → find m (put_entry n l xs) ≡ some k
    → ((m ≡ n) × (l ≡ k)) ⊎ ((m ≢ n) × (find m xs ≡ some k))
unfolding find first ◌or◌
found {A} n m l k xs e = go (eqb m n) refl (sym (find-put n l m xs) ∙ e)
  where
    go : (b : Bool) → eqb m n ≡ b → (when b then some l else none) or find m xs ≡ some k
        → ((m ≡ n) × (l ≡ k)) ⊎ ((m ≢ n) × (find m xs ≡ some k))
    go true d e = inl (eqb-true m n d, some_same e)
    go false d e = inr (eqb-false m n d, e)

own : {A : Type 0} (n : ℕ) (l : A) (xs : List (ℕ × A)) → find n (put_entry n l xs) ≡ some l
unfolding find first ◌or◌
own n l xs = find-put n l n xs ∙ rw (same n)

pub no_label : {A : Type 0} (l : Label) (n : ℕ) → find n [] ≡ some l → A
unfolding find first
no_label l n e = none_some {x = none} refl e

-- a label of a new number
new_label : (n next : ℕ) (xs : List (ℕ × Label)) (placed : List ℕ) → ((k : ℕ) → In k placed → k < next) → LabelsFit xs next placed
    → LabelsFit (put_entry n (record { id = next; defined = false }) xs) (suc next) placed
new_label n next xs placed p f = record {
  below = λ m k e. below m k (found n m l k xs e);
  unplaced = λ m k e d. unplaced m k d (found n m l k xs e);
  apart = λ m i k j e d q. apart m i k j q (found n m l k xs e) (found n i l j xs d);
}
  where
    l : Label
    l = record { id = next; defined = false }

    below : (m : ℕ) (k : Label) → ((m ≡ n) × (l ≡ k)) ⊎ ((m ≢ n) × (find m xs ≡ some k)) → k.id < suc next
    below m k (inl c) = subst (λ (x : Label). x.id < suc next) c.1 (omega arith)
    below m k (inr c) = let h = f.below m k c.1 in omega arith

    unplaced : (m : ℕ) (k : Label) → k.defined ≡ false → ((m ≡ n) × (l ≡ k)) ⊎ ((m ≢ n) × (find m xs ≡ some k)) → ¬ In k.id placed
    unplaced m k d (inl c) = subst (λ (x : Label). ¬ In x.id placed) c.1 (λ i. let h = p next i in omega arith)
    unplaced m k d (inr c) = f.unplaced m k c.1 d

    apart : (m i : ℕ) (k j : Label) → k.id ≡ j.id → ((m ≡ n) × (l ≡ k)) ⊎ ((m ≢ n) × (find m xs ≡ some k))
        → ((i ≡ n) × (l ≡ j)) ⊎ ((i ≢ n) × (find i xs ≡ some j)) → m ≡ i
    apart m i k j q (inl c) (inl d) = c.0 ∙ sym d.0
    apart m i k j q (inl c) (inr d) = let h = f.below i j d.1 in let z : next ≡ k.id = ap (λ (x : Label). x.id) c.1 in
        absurd (omega arith)
    apart m i k j q (inr c) (inl d) = let h = f.below m k c.1 in let z : next ≡ j.id = ap (λ (x : Label). x.id) d.1 in
        absurd (omega arith)
    apart m i k j q (inr c) (inr d) = f.apart m i k j c.1 d.1 q

-- a label is marked as defined
marked : (n next : ℕ) (l : Label) (xs : List (ℕ × Label)) (placed : List ℕ) → find n xs ≡ some l → LabelsFit xs next placed
    → LabelsFit (put_entry n (record { id = l.id; defined = true }) xs) next placed
marked n next l xs placed h f = record {
  below = λ m k e. below m k (found n m new k xs e);
  unplaced = λ m k e d. unplaced m k d (found n m new k xs e);
  apart = λ m i k j e d q. apart m i k j q (found n m new k xs e) (found n i new j xs d);
}
  where
    new : Label
    new = record { id = l.id; defined = true }

    below : (m : ℕ) (k : Label) → ((m ≡ n) × (new ≡ k)) ⊎ ((m ≢ n) × (find m xs ≡ some k)) → k.id < next
    below m k (inl c) = subst (λ (x : Label). x.id < next) c.1 (f.below n l h)
    below m k (inr c) = f.below m k c.1

    unplaced : (m : ℕ) (k : Label) → k.defined ≡ false → ((m ≡ n) × (new ≡ k)) ⊎ ((m ≢ n) × (find m xs ≡ some k)) → ¬ In k.id placed
    unplaced m k d (inl c) = clash (ap (λ (x : Label). x.defined) (sym c.1)) d
    unplaced m k d (inr c) = f.unplaced m k c.1 d

    apart : (m i : ℕ) (k j : Label) → k.id ≡ j.id → ((m ≡ n) × (new ≡ k)) ⊎ ((m ≢ n) × (find m xs ≡ some k))
        → ((i ≡ n) × (new ≡ j)) ⊎ ((i ≢ n) × (find i xs ≡ some j)) → m ≡ i
    apart m i k j q (inl c) (inl d) = c.0 ∙ sym d.0
    apart m i k j q (inl c) (inr d) = c.0 ∙ f.apart n i l j h d.1 (ap (λ (x : Label). x.id) c.1 ∙ q)
    apart m i k j q (inr c) (inl d) = f.apart m n k l c.1 h (q ∙ ap (λ (x : Label). x.id) (sym d.1)) ∙ sym d.0
    apart m i k j q (inr c) (inr d) = f.apart m i k j c.1 d.1 q

module _ (e : Env) where
  -- as `Ends`, with what is known of the later state
  abbrev Reaches : {A : Type 0} → State → (State → A → Type 0) → Outcome A → Type 0
  Reaches s Q (done a t) = Later s t × Kept e t × Q t a
  Reaches s Q (stopped r o k) = Unit {0}

  reaches_after : {A : Type 0} (s t : State) (Q : State → A → Type 0) (x : Outcome A) → Later s t → Reaches t Q x → Reaches s Q x
  reaches_after s t Q (done a u) l h = (later_trans l h.0, h.1, h.2)
  reaches_after s t Q (stopped r o k) l h = tt

  reaches_on : {A B : Type 0} (s : State) (Q : State → A → Type 0) (R : State → B → Type 0) (x : Outcome A) (f : A → Walk B)
      → Reaches s Q x → ((a : A) (t : State) → Kept e t → Q t a → Reaches t R (f a e t)) → Reaches s R (on e x f)
  unfolding on
  reaches_on s Q R (done a t) f h g = reaches_after s t R (f a e t) h.0 (g a t h.1 h.2)
  reaches_on s Q R (stopped r o k) f h g = tt

  reaches_ends : {A : Type 0} (s : State) (Q : State → A → Type 0) (P : ℕ → A → Type 0) (x : Outcome A)
      → ((a : A) (t : State) → Kept e t → Q t a → P (count t) a) → Reaches s Q x → Ends e s P x
  reaches_ends s Q P (done a t) f h = (h.0, h.1, f a t h.1 h.2)
  reaches_ends s Q P (stopped r o k) f h = tt

  -- labels

  abbrev Labelled : ℕ → State → Label → Type 0
  Labelled name t l = find name t.scope.labels ≡ some l

  label_found : (name : ℕ) (x : Option Label) (s : State) → Kept e s → find name s.scope.labels ≡ x
      → Reaches s (Labelled name) (label_or name x e s)
  unfolding label_or on require
  label_found name (some l) s o d = (later_refl, o, d)
  label_found name none s o d = go (leb (s.next_label + 1) 256) refl
    where
      l : Label
      l = record { id = s.next_label; defined = false }

      t : State
      t = with_label (with_entry name l s.scope) s

      there : find name (put_entry name l s.scope.labels) ≡ some l
      there = own name l s.scope.labels

      unknown : (k : ℕ) → Guarded k s → (n : ℕ) (m : Label) → ((n ≡ name) × (l ≡ m)) ⊎ ((n ≢ name) × (find n s.scope.labels ≡ some m))
          → m.id ≢ k
      unknown k g n m (inl c) = subst (λ (x : Label). x.id ≢ k) c.1 (λ q. let b = g.below in omega arith)
      unknown k g n m (inr c) = g.unknown n m c.1

      go : (b : Bool) → leb (s.next_label + 1) 256 ≡ b
          → Reaches s (Labelled name) (on e (require b too_many_labels e s) (λ _ f u. done l (with_label (with_entry name l s.scope) u)))
      go true b = (
        record {
          temporaries = omega arith;
          labels = omega arith;
          guarded =
              λ k g. record {
                below = (let h = g.below in omega arith);
                unplaced = g.unplaced;
                unknown = λ n m q. unknown k g n m (found name n l m s.scope.labels q);
              };
        },
        record {
          in_order = record {
            actions = o.in_order.actions;
            sizes = o.in_order.sizes;
            labels = o.in_order.labels;
            room = o.in_order.room;
          };
          scope = record { params = o.scope.params; mapping = o.scope.mapping };
          next = (let h = leb-true (s.next_label + 1) 256 b in omega arith);
          placed = λ k i. (let h = o.placed k i in omega arith);
          labels = new_label name s.next_label s.scope.labels (labelled s) o.placed o.labels;
        },
        there,
      )
      go false b = tt

  label_reaches : (name : ℕ) (s : State) → Kept e s → Reaches s (Labelled name) (get_or_insert_label name e s)
  unfolding get_or_insert_label on
  label_reaches name s o = label_found name (find name s.scope.labels) s o refl

  -- the number of a label that a branch goes to
  pub keep_label : {n : ℕ} (name : ℕ) → Keeps e n (λ k l. l.id < 256) (get_or_insert_label name)
  keep_label name = record {
    keeps = λ s c o. reaches_ends s (Labelled name) (λ k l. l.id < 256) (get_or_insert_label name e s)
        (λ l t p d. let h = p.labels.below name l d in let m = p.next in omega arith) (label_reaches name s o);
  }

  -- a label that may be placed: its number is given out and not placed, and the labels of this scope that have it are defined
  record Placeable (t : State) (id : ℕ) : Type 0 where
    below : id < t.next_label
    fresh : ¬ In id (labelled t)
    name : ℕ
    label : Label
    is : find name t.scope.labels ≡ some label
    own : label.id ≡ id
    defined : label.defined ≡ true

  resolved_reaches : (name : ℕ) (s : State) → Kept e s → Reaches s Placeable (resolve_label name e s)
  unfolding resolve_label on require
  resolved_reaches name s o = reaches_on s (Labelled name) Placeable (get_or_insert_label name e s) _ (label_reaches name s o)
      (λ l t p d. go l t p d l.defined refl)
    where
      go : (l : Label) (t : State) → Kept e t → Labelled name t l → (b : Bool) → l.defined ≡ b
          → Reaches t Placeable (on e (require (not b) label_twice e t)
          (λ _ f u. done l.id (with_scope (with_entry name (record { id = l.id; defined = true }) u.scope) u)))
      go l t p d true b = tt
      go l t p d false b = (
        record {
          temporaries = omega arith;
          labels = omega arith;
          guarded =
              λ k g. record {
                below = g.below;
                unplaced = g.unplaced;
                unknown = λ n m q. unknown k g n m (found name n new m t.scope.labels q);
              };
        },
        record {
          in_order = record {
            actions = p.in_order.actions;
            sizes = p.in_order.sizes;
            labels = p.in_order.labels;
            room = p.in_order.room;
          };
          scope = record { params = p.scope.params; mapping = p.scope.mapping };
          next = p.next;
          placed = p.placed;
          labels = marked name t.next_label l t.scope.labels (labelled t) d p.labels;
        },
        record {
          below = p.labels.below name l d;
          fresh = p.labels.unplaced name l d b;
          name = name;
          label = new;
          is = own name new t.scope.labels;
          own = refl;
          defined = refl;
        },
      )
        where
          new : Label
          new = record { id = l.id; defined = true }

          unknown : (k : ℕ) → Guarded k t → (n : ℕ) (m : Label)
              → ((n ≡ name) × (new ≡ m)) ⊎ ((n ≢ name) × (find n t.scope.labels ≡ some m)) → m.id ≢ k
          unknown k g n m (inl c) = subst (λ (x : Label). x.id ≢ k) c.1 (g.unknown name l d)
          unknown k g n m (inr c) = g.unknown n m c.1

  -- an action that places a label is pushed

  placed-last : (xs : List SemanticAction) (a : SemanticAction) → placing a.kind ≡ true
      → label_numbers (xs ++ (a ∷ [])) ≡ label_numbers xs ++ (a.number ∷ [])
  unfolding label_numbers place
  placed-last xs a h = numbers_append xs (a ∷ []) ∙ rw h

  in_last : (k n : ℕ) (ns : List ℕ) → In k (ns ++ (n ∷ [])) → In k ns ⊎ (k ≡ n)
  in_last k n [] (inl d) = inr d
  in_last k n [] (inr d) = absurd d
  in_last k n (m ∷ ns) (inl d) = inl (inl d)
  in_last k n (m ∷ ns) (inr d) = go (in_last k n ns d)
    where
      go : In k ns ⊎ (k ≡ n) → In k (m ∷ ns) ⊎ (k ≡ n)
      go (inl i) = inl (inr i)
      go (inr i) = inr i

  not_last : (k n : ℕ) (ns : List ℕ) → ¬ In k ns → k ≢ n → ¬ In k (ns ++ (n ∷ []))
  not_last k n ns h d i = go (in_last k n ns i)
    where
      go : In k ns ⊎ (k ≡ n) → ⊥
      go (inl j) = h j
      go (inr j) = d j

  distinct_last : (n : ℕ) (ns : List ℕ) → ¬ In n ns → Distinct ns → Distinct (ns ++ (n ∷ []))
  distinct_last n [] h d = ((λ i. i), tt)
  distinct_last n (m ∷ ns) h d = (not_last m n ns d.0 (λ q. h (inl (sym q))), distinct_last n ns (λ i. h (inr i)) d.1)

  label-pushed : (s : State) (a : SemanticAction) → Kept e s → Placeable s a.number → placing a.kind ≡ true
      → Rough (count s) (length e.section.subtables) a
      → Reaches s (λ t _. Unit {0}) (push a e s)
  unfolding push on require
  label-pushed s a o p h r = go (leb (length s.actions + 1 + length e.section.subtables) e.action_room) refl
    where
      numbers : label_numbers (s.actions ++ (a ∷ [])) ≡ labelled s ++ (a.number ∷ [])
      numbers = placed-last s.actions a h

      id : ℕ
      id = a.number

      t : State
      t = with_action a s

      undefined : (n : ℕ) (l : Label) → find n s.scope.labels ≡ some l → l.defined ≡ false → l.id ≢ id
      undefined n l d u q =
          let same_name : n ≡ p.name = o.labels.apart n p.name l p.label d p.is (q ∙ sym p.own) in
          let same-label : l ≡ p.label = some_same (sym d ∙ ap (λ (x : ℕ). find x s.scope.labels) same_name ∙ p.is) in
          clash (ap (λ (x : Label). x.defined) same-label ∙ p.defined) u

      labels : LabelsFit s.scope.labels s.next_label (labelled s ++ (id ∷ []))
      labels = record {
        below = o.labels.below;
        unplaced = λ n l d u. not_last l.id id (labelled s) (o.labels.unplaced n l d u) (undefined n l d u);
        apart = o.labels.apart;
      }

      placed : (k : ℕ) → In k (labelled s) ⊎ (k ≡ id) → k < s.next_label
      placed k (inl i) = o.placed k i
      placed k (inr i) = rw i p.below

      go : (b : Bool) → leb (length s.actions + 1 + length e.section.subtables) e.action_room ≡ b
          → Reaches s (λ t _. Unit {0}) (on e (require b list_full e s) (λ _ f u. done (tt {0}) (with_action a u)))
      go true b = (
        record {
          temporaries = omega arith;
          labels = omega arith;
          guarded = λ k g. record {
            below = g.below;
            unplaced = rw numbers (not_last k id (labelled s) g.unplaced
                (λ q. g.unknown p.name p.label p.is (p.own ∙ sym q)));
            unknown = g.unknown;
          };
        },
        record {
          in_order = record {
            actions = each_append _ s.actions (a ∷ []) o.in_order.actions (r, tt);
            sizes = o.in_order.sizes;
            labels = rw numbers (distinct_last id (labelled s) p.fresh o.in_order.labels);
            room = (let h = leb-true (length s.actions + 1 + length e.section.subtables) e.action_room b in let m =
                length-append s.actions (a ∷ []) in omega arith);
          };
          scope = o.scope;
          next = o.next;
          placed = rw numbers (λ k i. placed k (in_last k id (labelled s) i));
          labels = rw numbers labels;
        },
        tt,
      )
      go false b = tt

  abbrev label_action : ℕ → SemanticAction
  label_action id = record { kind = ActionKind.Op Operation.PcodeLabel; number = id; inputs = []; output = none }

  label-places : placing (ActionKind.Op Operation.PcodeLabel) ≡ true
  unfolding placing or_else and_then operation_of operation_number
  label-places = refl

  label_rough : (n id : ℕ) → id < 256 → Rough n (length e.section.subtables) (label_action id)
  unfolding is_some
  label_rough n id h = laid_out (applied e n Operation.PcodeLabel id [] none (label_applies id h) tt tt)

  label-placed : WithinLimits e.section → (t : State) (id : ℕ) → Kept e t → Placeable t id
      → Reaches t (λ u _. Unit {0}) (op_no_output Operation.PcodeLabel id [] e t)
  unfolding op_no_output push_op on
  label-placed w t id o p =
      let small : id < 256 = (let h = p.below in let m = o.next in omega arith) in
      let r = (keep_update {e = e} {n = count t} w (label_action id) (label_rough (count t) id small)).keeps t (omega arith) o in
      let b : SemanticAction = (update_operand_sizes e.section false (label_action id) t.sizing).0 in
      let u : State = with_sizing (update_operand_sizes e.section false (label_action id) t.sizing).1 t in
      let q : Placeable u id = record {
        below = p.below;
        fresh = p.fresh;
        name = p.name;
        label = p.label;
        is = p.is;
        own = p.own;
        defined = p.defined;
      } in
      let pushed = label-pushed u b r.1 (subst (Placeable u) (sym r.2.1.number) q) (ap placing r.2.1.kind ∙ label-places)
      r.2.0 in
      let given : Reaches u (λ v (_ : SemanticAction). Unit {0}) (on e (push b e u) (λ _. pure b)) =
      reaches_on u (λ v _. Unit {0}) (λ v (_ : SemanticAction). Unit {0}) (push b e u) (λ _. pure b) pushed
      (λ _ v c _. (later_refl, c, tt)) in
      reaches_after t u (λ v (_ : Unit {0}). Unit {0}) (on e (on e (push b e u) (λ _. pure b)) (λ _. pure (tt {0}))) r.0
      (reaches_on u (λ v (_ : SemanticAction). Unit {0}) (λ v (_ : Unit {0}). Unit {0}) (on e (push b e u) (λ _. pure b))
      (λ _. pure (tt {0})) given (λ _ v c _. (later_refl, c, tt)))

  pub keep_placed : {n : ℕ} → WithinLimits e.section → (name : ℕ)
      → Keeps e n (λ k _. Unit {0}) (λ f s. on f (resolve_label name f s) (λ id. op_no_output Operation.PcodeLabel id []))
  keep_placed w name = record {
    keeps = λ s c o. reaches_ends s (λ t _. Unit {0}) (λ k _. Unit {0})
        (on e (resolve_label name e s) (λ id. op_no_output Operation.PcodeLabel id [])) (λ _ t p d. tt)
        (reaches_on s Placeable (λ t _. Unit {0}) (resolve_label name e s) _ (resolved_reaches name s o)
        (λ id t p q. label-placed w t id p q));
  }

  -- a local is declared
  pub keep_named_tmp : {n : ℕ} (name : ℕ) (z : Option ℕ) → SizeWithin z → Keeps e n (λ k v. ValueFits e k v) (named_tmp name z)
  unfolding named_tmp on require
  keep_named_tmp {n} name z h = keep_bind _ _ (keep_add_tmp (some name) z (omega arith)) λ k l v f.
      record { keeps = λ s c o. go k v f s c o (not (is_some (find name s.scope.mapping))) }
    where
      go : (k : ℕ) (v : Value) → ValueFits e k v → (s : State) → k ≤ count s → Kept e s → (b : Bool)
          → Ends e s (λ k v. ValueFits e k v) (on e (require b redeclared e s)
          (λ _ f t. done v (with_scope (record {
            params = s.scope.params;
            mapping = s.scope.mapping ++ ((name, v) ∷ []);
            labels = s.scope.labels;
          }) t)))
      go k v f s c o true =
          let g = fits_more {n = k} {k = count s} c f in (
            record {
              temporaries = omega arith;
              labels = omega arith;
              guarded = λ j q. record { below = q.below; unplaced = q.unplaced; unknown = q.unknown };
            },
            record {
              in_order = record {
                actions = o.in_order.actions;
                sizes = o.in_order.sizes;
                labels = o.in_order.labels;
                room = o.in_order.room;
              };
              scope = record { params = o.scope.params; mapping = each_append _ s.scope.mapping ((name, v) ∷ []) o.scope.mapping (g, tt) };
              next = o.next;
              placed = o.placed;
              labels = o.labels;
            },
            g,
          )
      go k v f s c o false = tt

  -- a macro's body in a scope of its own

  bound_fits : (n : ℕ) (ns : List ℕ) (xs : List ExprValue) (bound : List (ℕ × ExprValue)) → Each (ExprFits e n) xs
      → Each (λ (p : ℕ × ExprValue). ExprFits e n p.1) bound
      → Each (λ (p : ℕ × ExprValue). ExprFits e n p.1) (bind_params ns xs bound)
  unfolding bind_params
  bound_fits n [] xs bound f g = g
  bound_fits n (m ∷ ns) [] bound f g = g
  bound_fits n (m ∷ ns) (x ∷ xs) bound f g = bound_fits n ns xs ((m, x) ∷ bound) f.1 (f.0, g)

  pub keep_macro : {n : ℕ} (body : ℕ → List Statement → Walk (Unit {0})) (id : ℕ) (m : Macro) (xs : List ExprValue)
      → ((ordinal k : ℕ) → Keeps e k (λ j _. Unit {0}) (body ordinal m.body)) → Each (ExprFits e n) xs
      → Keeps e n (λ k _. Unit {0}) (enter_macro body id m xs)
  unfolding enter_macro on macro_scope
  keep_macro {n} body id m xs b f = record { keeps = λ s c o. go s c o }
    where
      go : (s : State) → n ≤ count s → Kept e s → Ends e s (λ k _. Unit {0}) (enter_macro body id m xs e s)
      go s c o = back (body _ m.body e inner) ((b _ (count s)).keeps inner (omega arith) entered)
        where
          inner : State
          inner = with_scope (macro_scope m.params xs) s

          entered : Kept e inner
          entered = record {
            in_order = record {
              actions = o.in_order.actions;
              sizes = o.in_order.sizes;
              labels = o.in_order.labels;
              room = o.in_order.room;
            };
            scope = record { params = bound_fits (count s) m.params xs [] (exprs_more e n (count s) c xs f) tt; mapping = tt };
            next = o.next;
            placed = o.placed;
            labels = record {
              below = λ n l d. no_label l n d;
              unplaced = λ n l d u. no_label l n d;
              apart = λ n i l j d q r. no_label l n d;
            };
          }

          guarded : (k : ℕ) → k < s.next_label → ¬ In k (labelled s) → Guarded k inner
          guarded k h u = record { below = h; unplaced = u; unknown = λ n l d. no_label l n d }

          back : (x : Outcome (Unit {0})) → Ends e inner (λ k _. Unit {0}) x
              → Ends e s (λ k _. Unit {0}) (on e x (λ _ g t. done (tt {0}) (with_scope s.scope t)))
          back (stopped r i k) h = tt
          back (done a t) h =
              let l = h.0 in
              let p = h.1 in (
                record {
                  temporaries = l.temporaries;
                  labels = l.labels;
                  guarded = λ k g. (let q = l.guarded k (guarded k g.below g.unplaced) in
                      record { below = q.below; unplaced = q.unplaced; unknown = g.unknown });
                },
                record {
                  in_order = record {
                    actions = p.in_order.actions;
                    sizes = p.in_order.sizes;
                    labels = p.in_order.labels;
                    room = p.in_order.room;
                  };
                  scope = scope_more e (count s) (count t) s.scope l.temporaries o.scope;
                  next = p.next;
                  placed = p.placed;
                  labels = record {
                    below = λ n x d. (let q = o.labels.below n x d in let r = l.labels in omega arith);
                    unplaced = λ n x d u. (l.guarded x.id
                        (guarded x.id (o.labels.below n x d) (o.labels.unplaced n x d u))).unplaced;
                    apart = o.labels.apart;
                  };
                },
                tt,
              )
