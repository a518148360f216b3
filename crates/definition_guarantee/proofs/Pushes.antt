-- Temporaries and pushes keep the state in order.
use Prim.Native.Nat.{ℕ, zero, suc, ◌+◌, ◌≤◌, ◌<◌}
use mathlib.Core.Path.{◌≡◌, refl, sym, ◌∙◌, ap, subst}
use mathlib.Core.Logic.{◌⊎◌, inl, inr}
use mathlib.Core.Bool.{Bool, true, false, ◌&&◌}
use mathlib.Core.List.{List, [], ◌∷◌, ◌++◌}
use mathlib.Core.Option.{Option, none, some}
use native.Mathlib.Omega.{arith}
use lib.Dec.{eqb, leb, ltb}
use lib.ListN.{length, length-append}
use Rattle.prelude.specs.Base.{when◌then◌else◌, or_else, and_then, is_some, any, all, first}
use Rattle.definition.specs.Refusals.{list_full, too_many_temporaries}
use Rattle.definition.specs.Operations.{Operation, operation_number, is_op}
use Rattle.definition.specs.Value.{Kind, Value, local, ActionKind, SemanticAction, operation_of, Temporary}
use Rattle.definition.specs.Ast.{Section}
use Rattle.definition.specs.Sizes.{Sizing, with_temporaries, steps_of, update_operand_sizes}
use Rattle.definition.specs.Walk.{ExprValue, Scope, State, Env, done, on, require, by_sizes, with_sizing, with_action, add_tmp, output_or, push, push_op, op, op_no_output}
use Rattle.definition.specs.Checker.{Shape, OperationShape, shapes, shape_of, same_count, counts_fit, option_fits, number_fits, value_fits, base_fits}
use Rattle.definition.proofs.Openers.{operations_opens}
use Rattle.definition_guarantee.specs.Tests.{Each}
use Rattle.std.proofs.lemmas.Bool.{leb-true, ltb-true, lt-ltb, eqb-true}
use Rattle.std.proofs.lemmas.List.{append-nil}
use Rattle.definition_guarantee.proofs.Tests.{never, and_true, if_true, each_all, each_append, each_more, then_some, or_true, none_some, some_same}
use Rattle.definition_guarantee.proofs.Growth.{tmp_size}
use Rattle.definition_guarantee.proofs.Rules.{Alike, steps_alike, steps_grown}
use Rattle.definition_guarantee.proofs.Words.{Fits, fits_parts, parts_fit, Laid}
use Rattle.definition_guarantee.proofs.Layouts.{update_rough, Rough, laid_out, subpiece}
use Rattle.definition_guarantee.proofs.WholeList.{placing, place, label_numbers, numbers_append}
use Rattle.definition_guarantee.specs.Limits.{WithinLimits}
use Rattle.definition_guarantee.proofs.Kept.{small_section, fits_more, rough_more, applies, Applicable, plain, part, ValueFits, Small, OptionFits, ExprFits, values_more, expr_more, count, ScopeFits, Kept, Later, Ends, Keeps, keep_bind, keep_then, keep_pure, same_count_lem, sized-later}

-- a temporary is made

one_more_lem : {A : Type 0} (xs : List A) (x : A) → length (xs ++ (x ∷ [])) ≡ suc (length xs)
one_more_lem xs x = length-append xs (x ∷ []) ∙ omega arith

append_small : (ts : List Temporary) (x : Temporary) (i n : ℕ) → tmp_size (ts ++ (x ∷ [])) i ≡ some n
    → (tmp_size ts i ≡ some n) ⊎ (x.size ≡ some n)
unfolding and_then
append_small [] x zero n e = inr e
append_small [] x (suc i) n e = none_some {x = none} refl e
append_small (t ∷ ts) x zero n e = inl e
append_small (t ∷ ts) x (suc i) n e = append_small ts x i n e

pub scope_more : (e : Env) (n k : ℕ) (x : Scope) → n ≤ k → ScopeFits e n x → ScopeFits e k x
scope_more e n k x h f = record {
  params = each_more (λ (p : ℕ × ExprValue). ExprFits e n p.1) (λ (p : ℕ × ExprValue). ExprFits e k p.1)
      (λ p g. expr_more e n k h p.1 g) x.params f.params;
  mapping = each_more (λ (p : ℕ × Value). ValueFits e n p.1) (λ (p : ℕ × Value). ValueFits e k p.1)
      (λ p g. fits_more {n = n} {k = k} h g) x.mapping f.mapping;
}

module _ (e : Env) (s : State) (t : Temporary) where
  abbrev larger : State
  larger = with_sizing (with_temporaries (s.sizing.temporaries ++ (t ∷ [])) s.sizing) s

  larger_kept : or_else 0 t.size < 65535 → Kept e s → Kept e larger
  unfolding or_else
  larger_kept z o =
      let m = one_more_lem s.sizing.temporaries t in
      let h : count s ≤ count larger = omega arith in
      record {
        in_order = record {
          actions = each_more _ _ (λ a r. rough_more (count s) (count larger) (length e.section.subtables) a h r) s.actions
              o.in_order.actions;
          sizes = record { small = λ i n d. go n (append_small s.sizing.temporaries t i n d) (o.in_order.sizes.small i n) };
          labels = o.in_order.labels;
          room = o.in_order.room;
        };
        scope = scope_more e (count s) (count larger) s.scope h o.scope;
        next = o.next;
        placed = o.placed;
        labels = o.labels;
      }
    where
      small : (y : Option ℕ) (n : ℕ) → or_else 0 y < 65535 → y ≡ some n → n < 65535
      small none n k d = none_some {x = none} refl d
      small (some m) n k d = let q : m ≡ n = cc in rw (← q) k

      go : {X : Type 0} (n : ℕ) → X ⊎ (t.size ≡ some n) → (X → n < 65535) → n < 65535
      go n (inl d) f = f d
      go n (inr d) f = small t.size n z d

  larger_later : Later s larger
  larger_later = let m = one_more_lem s.sizing.temporaries t in
      record {
        temporaries = omega arith;
        labels = omega arith;
        guarded = λ k g. record { below = g.below; unplaced = g.unplaced; unknown = g.unknown };
      }

new_fits : (sub : ℕ) (ts : List Temporary) (x : Temporary) → Fits (length (ts ++ (x ∷ []))) sub (local Kind.PcodeTmp (length ts))
unfolding number_fits or_else
new_fits sub ts x = let m = one_more_lem ts x in record {
  number = lt-ltb (length ts) (length (ts ++ (x ∷ []))) (omega arith);
  offset = omega arith;
  size = omega arith;
}

pub keep_add_tmp : {e : Env} {n : ℕ} (name z : Option ℕ) → Small e n z → Keeps e n (λ k v. ValueFits e k v) (add_tmp name z)
unfolding add_tmp on require
keep_add_tmp {e} {n} name z h = record { keeps = λ s c o. go s o (leb (length s.sizing.temporaries + 1) e.temporary_room) }
  where
    go : (s : State) → Kept e s → (b : Bool)
        → Ends e s (λ k v. ValueFits e k v) (on e (require b too_many_temporaries e s)
        (λ _ f t. done (local Kind.PcodeTmp (length s.sizing.temporaries))
        (with_sizing (with_temporaries (s.sizing.temporaries ++ (record { name = name; size = z } ∷ [])) s.sizing) t)))
    go s o true = (
      larger_later e s _,
      larger_kept e s (record { name = name; size = z }) h o,
      new_fits (length e.section.subtables) s.sizing.temporaries _,
    )
    go s o false = tt

pub keep_output_or : {e : Env} {n : ℕ} (z : Option ℕ) (o : Option Value) → Small e n z → OptionFits e n o
    → Keeps e n (λ k v. ValueFits e k v) (output_or z o)
unfolding output_or
keep_output_or {e} {n} z (some v) h f = keep_pure v (λ k l. fits_more {n = n} {k = k} l f)
keep_output_or z none h f = keep_add_tmp none z h

-- an action is pushed

unlabelled : (xs : List SemanticAction) (a : SemanticAction) → placing a.kind ≡ false → label_numbers (xs ++ (a ∷ [])) ≡ label_numbers xs
unfolding label_numbers place
unlabelled xs a h = numbers_append xs (a ∷ []) ∙ rw h (append-nil (label_numbers xs))

module _ (e : Env) (s : State) (a : SemanticAction) where
  longer_kept : Rough (count s) (length e.section.subtables) a
      → length s.actions + 1 + length e.section.subtables ≤ e.action_room → placing a.kind ≡ false → Kept e s
      → Kept e (with_action a s)
  longer_kept r h p o =
      let m = one_more_lem s.actions a in
      let q = unlabelled s.actions a p in
      record {
        in_order = record {
          actions = each_append _ s.actions (a ∷ []) o.in_order.actions (r, tt);
          sizes = o.in_order.sizes;
          labels = rw q o.in_order.labels;
          room = omega arith;
        };
        scope = o.scope;
        next = o.next;
        placed = rw q o.placed;
        labels = rw q o.labels;
      }

  longer-later : placing a.kind ≡ false → Later s (with_action a s)
  longer-later p = record {
    temporaries = omega arith;
    labels = omega arith;
    guarded = λ k g. record { below = g.below; unplaced = rw (unlabelled s.actions a p) g.unplaced; unknown = g.unknown };
  }

pub keep_push : {e : Env} {n : ℕ} (a : SemanticAction) → Rough n (length e.section.subtables) a → placing a.kind ≡ false
    → Keeps e n (λ k _. Unit {0}) (push a)
unfolding push on require
keep_push {e} {n} a r p = record {
  keeps = λ s c o. go s c o (leb (length s.actions + 1 + length e.section.subtables) e.action_room) refl;
}
  where
    go : (s : State) → n ≤ count s → Kept e s → (b : Bool)
        → leb (length s.actions + 1 + length e.section.subtables) e.action_room ≡ b
        → Ends e s (λ k _. Unit {0}) (on e (require b list_full e s) (λ _ f t. done (tt {0}) (with_action a t)))
    go s c o true h = (longer-later e s a p, longer_kept e s a (rough_more n (count s) _ a c r) (leb-true _ _ h) p o, tt)
    go s c o false h = tt

updated : (sec : Section) (a : SemanticAction) (s : Sizing)
    → (length (update_operand_sizes sec false a s).1.temporaries ≡ length s.temporaries) × Alike a
    (update_operand_sizes sec false a s).0
unfolding update_operand_sizes
updated sec a s = (
  (steps_grown sec false (steps_of (operation_of a.kind)) a s).count,
  steps_alike sec false (steps_of (operation_of a.kind)) a s,
)

pub keep_update : {e : Env} {n : ℕ} → WithinLimits e.section → (a : SemanticAction) → Rough n (length e.section.subtables) a
    → Keeps e n (λ k b. Rough k (length e.section.subtables) b × Alike a b) (by_sizes λ sec. update_operand_sizes sec false a)
keep_update {e} {n} w a r = record { keeps = λ s c o. go s c o }
  where
    go : (s : State) → n ≤ count s → Kept e s → Ends e s (λ k b. Rough k (length e.section.subtables) b × Alike a b)
        (done (update_operand_sizes e.section false a s.sizing).0
        (with_sizing (update_operand_sizes e.section false a s.sizing).1 s))
    go s c o =
        let sub : ℕ = length e.section.subtables in
        let x : Sizing = (update_operand_sizes e.section false a s.sizing).1 in
        let u = update_rough e.section (small_section e.section w) (count s) sub false a s.sizing
        (rough_more n (count s) sub a c r) o.in_order.sizes in
        let m : length x.temporaries ≡ count s = (updated e.section a s.sizing).0 in
        (sized-later s x m, same_count_lem e s x m u.1 o, (rw m u.0, (updated e.section a s.sizing).1))

pub keep_push_op : {e : Env} {n : ℕ} → WithinLimits e.section → (operation : Operation) (c : ℕ) (vs : List Value) (o : Option Value)
    → Rough n (length e.section.subtables) (record { kind = ActionKind.Op operation; number = c; inputs = vs; output = o })
    → placing (ActionKind.Op operation) ≡ false
    → Keeps e n (λ k b. Rough k (length e.section.subtables) b) (push_op operation c vs o)
unfolding push_op
keep_push_op {e} {n} w operation c vs o r p =
    keep_bind _ _ (keep_update w _ r) λ k l b f.
    keep_then _ _ (keep_push b f.0 (ap placing f.1.kind ∙ p)) λ j m _.
    keep_pure b λ i h. rough_more k i _ b (omega arith) f.0

-- operations

module _ (e : Env) (n : ℕ) where
  abbrev sub : ℕ
  sub = length e.section.subtables

  all_fit : (vs : List Value) → Each (ValueFits e n) vs → all (value_fits n sub) vs ≡ true
  all_fit vs f = each_all (value_fits n sub) vs (each_more (ValueFits e n) (λ v. value_fits n sub v ≡ true) (λ v g. parts_fit g) vs f)

  option_fit : (o : Option Value) → OptionFits e n o → option_fits (value_fits n sub) o ≡ true
  unfolding option_fits
  option_fit none f = refl
  option_fit (some v) f = parts_fit f

  shape_any : (operation : Operation) → shape_of n sub (ActionKind.Op operation) ≡ shape_of 0 0 (ActionKind.Op operation)
  unfolding shape_of
  shape_any operation = refl

  pub applied : (operation : Operation) (c : ℕ) (vs : List Value) (o : Option Value) → applies (is_some o) operation c (length vs) ≡ true
      → Each (ValueFits e n) vs → OptionFits e n o
      → Laid n sub (record { kind = ActionKind.Op operation; number = c; inputs = vs; output = o })
  unfolding applies counts_fit base_fits
  applied operation c vs o h f g =
      let q = then_some (shape_of 0 0 (ActionKind.Op operation)) _ true (or_true _ h) in
      let both : any (same_count (length vs, is_some o)) q.0.counts && ltb c q.0.below ≡ true = some_same q.2 in
      let k = and_true _ _ both in
      record {
        shaped = record { shape = q.0; is = shape_any operation ∙ q.1; counts = k.0; number = ltb-true _ _ k.1 };
        inputs = all_fit vs f;
        output = option_fit o g;
        base = refl;
      }

  one_value_lem : (vs : List Value) → length vs ≡ 1 → Each (ValueFits e n) vs → (v : Value) × (vs ≡ v ∷ []) × ValueFits e n v
  one_value_lem [] h f = absurd (omega arith)
  one_value_lem (v ∷ []) h f = (v, refl, f.0)
  one_value_lem (v ∷ u ∷ vs) h f = absurd (omega arith)

  pub rough_apply : (operation : Operation) (c : ℕ) (vs : List Value) (o : Value) → Applicable operation c (length vs)
      → Each (ValueFits e n) vs → ValueFits e n o
      → Rough n sub (record { kind = ActionKind.Op operation; number = c; inputs = vs; output = some o })
  unfolding is_some
  rough_apply operation c vs o (plain h) f g = laid_out (applied operation c vs (some o) h f g)
  rough_apply operation c vs o (part d i h) f g = let q = one_value_lem vs i f in
      subpiece q.0 o (ap ActionKind.Op d) q.1 refl h q.2 g

-- an operation with an output places no label

places_none : (operation : Operation) (c i : ℕ) → applies true operation c i ≡ true → (b : Bool) → is_op Operation.PcodeLabel operation ≡ b
    → b ≡ false
unfolding applies shape_of shapes operations_opens same_count
places_none operation c i h false d = refl
places_none operation c i h true d = let n : operation_number operation ≡ 62 = sym (eqb-true 62 (operation_number operation) d) in
    absent (operation_number operation) n h
  where
    absent : (n : ℕ) → n ≡ 62
        → or_else false (and_then (first (λ (row : OperationShape). when any (λ other. eqb n (operation_number other)) row.operations
        then some row.shape else none) shapes) λ (shape : Shape). some
        (any (same_count (i, true)) shape.counts && ltb c shape.below)) ≡ true
        → true ≡ false
    absent n d e =
        let q : ((when eqb i 0 && false then true else false) && ltb c 256) ≡ true = rw d at e in
        never (and_true (eqb i 0) false (if_true (eqb i 0 && false) true (and_true _ (ltb c 256) q).0).0).1

pub apply_places_not : (operation : Operation) (c i : ℕ) → Applicable operation c i → placing (ActionKind.Op operation) ≡ false
unfolding placing or_else and_then operation_of operation_number
apply_places_not operation c i (plain h) = places_none operation c i h (is_op Operation.PcodeLabel operation) refl
apply_places_not operation c i (part d k h) = rw d

output_of_lem : (e : Env) (n : ℕ) (to : Value) (a : SemanticAction) → ValueFits e n to → Rough n (length e.section.subtables) a
    → ValueFits e n (or_else to a.output)
unfolding or_else option_fits
output_of_lem e n to a f r = go a.output refl r
  where
    fits : (o v : Value) → some v ≡ some o → ValueFits e n o → ValueFits e n v
    fits o v d g = let q : o ≡ v = cc in subst (ValueFits e n) q g

    go : (x : Option Value) → a.output ≡ x → Rough n (length e.section.subtables) a → ValueFits e n (or_else to x)
    go none d r = f
    go (some v) d (laid_out l) = fits_parts (subst
        (λ (y : Option Value). option_fits (value_fits n (length e.section.subtables)) y ≡ true) d l.output)
    go (some v) d (subpiece u o k i h m g j) = fits o v (sym d ∙ h) j

pub keep_op : {e : Env} {n : ℕ} → WithinLimits e.section → (operation : Operation) (c : ℕ) (vs : List Value) (o : Option Value)
    → Applicable operation c (length vs) → Each (ValueFits e n) vs → OptionFits e n o
    → Keeps e n (λ k v. ValueFits e k v) (op operation c vs o)
unfolding op or_else
keep_op {e} {n} w operation c vs o h f g =
    keep_bind _ _ (keep_output_or none o (omega arith) g) λ k l to p.
    keep_bind _ _ (keep_push_op w operation c vs (some to) (rough_apply e k operation c vs to h (values_more e n k l vs f) p)
    (apply_places_not operation c (length vs) h)) λ j m a r.
    keep_pure _ λ i q. fits_more {n = j} {k = i} q (output_of_lem e j to a (fits_more {n = k} {k = j} m p) r)

pub keep_op_no_output : {e : Env} {n : ℕ} → WithinLimits e.section → (operation : Operation) (c : ℕ) (vs : List Value)
    → applies false operation c (length vs) ≡ true → placing (ActionKind.Op operation) ≡ false → Each (ValueFits e n) vs
    → Keeps e n (λ k _. Unit {0}) (op_no_output operation c vs)
unfolding op_no_output is_some
keep_op_no_output {e} {n} w operation c vs h p f =
    keep_bind _ _ (keep_push_op w operation c vs none (laid_out (applied e n operation c vs none h f tt)) p) λ k l a r. keep_pure tt
    λ j m. tt
