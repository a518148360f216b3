-- Sizes of the final actions: every operation's operands are sized and obey its rule.
use Prim.Native.Nat.{ℕ, zero, suc}
use mathlib.Core.Path.{◌≡◌, refl, sym, ◌∙◌, ap, subst}
use mathlib.Core.Bool.{true}
use mathlib.Core.List.{List, [], ◌∷◌}
use mathlib.Core.Option.{Option, none, some}
use lib.ListN.{get_elem?}
use Rattle.prelude.specs.Base.{◌or◌, and_then, is_some, all, first, contains}
use Rattle.definition.specs.Operations.{Operation}
use Rattle.definition.specs.Value.{Value, truncate, ActionKind, SemanticAction, operation_of, Temporary}
use Rattle.definition.specs.Ast.{Section}
use Rattle.definition.specs.Sizes.{Operand, in0, in1, out, Step, equal, exactly, by_default, rules, rule_of, steps_of, at, pointer_size, fixed_size}
use Rattle.definition.specs.Checker.{option_fits, is_sized, size_at, has_size, all_have_size, step_holds, operation_holds, sizes_hold}
use Rattle.definition.proofs.Openers.{operations_opens}
use Rattle.definition_guarantee.specs.Tests.{Each}
use Rattle.definition_guarantee.proofs.Tests.{same, both, all_cons, all_parts, all_from, first_from, then_some, none_some}
use Rattle.definition_guarantee.proofs.Growth.{own_size}
use Rattle.definition_guarantee.proofs.Rules.{final_size, Obeyed, AllObeyed}
use Rattle.definition_guarantee.proofs.Forward.{Obeys}
use Rattle.definition_guarantee.proofs.Finish as end
use Rattle.definition_guarantee.proofs.Finish.{Fixed, FixedAll, FixedOption, FixedAction, SlicedInputs, Copied, Finished, FinishedAll, ended, next}

module _ (sec : Section) where
  fixed-some : (w : List Temporary) (x : Option Value) (u : Value) → FixedOption sec w x (some u)
      → (v : Value) × (m : ℕ) × (x ≡ some v) × (final_size sec w v ≡ some m) × (u ≡ truncate m v)
  fixed-some w none u f = absurd f
  fixed-some w (some v) u f = (v, f.0, refl, f.1, f.2)

  fixed_first : (w : List Temporary) (vs us : List Value) (i : ℕ) → FixedAll sec w vs us
      → FixedOption sec w (get_elem? vs i) (get_elem? us i)
  fixed_first w [] [] i f = tt
  fixed_first w [] (u ∷ us) i f = absurd f
  fixed_first w (v ∷ vs) [] i f = absurd f
  fixed_first w (v ∷ vs) (u ∷ us) zero f = f.0
  fixed_first w (v ∷ vs) (u ∷ us) (suc i) f = fixed_first w vs us i f.1

  fixed_at : (w : List Temporary) (a c : SemanticAction) (p : Operand) → FixedAction sec w a c → FixedOption sec w (at p a) (at p c)
  unfolding at
  fixed_at w a c in0 f = fixed_first w a.inputs c.inputs 0 f.inputs
  fixed_at w a c in1 f = fixed_first w a.inputs c.inputs 1 f.inputs
  fixed_at w a c out f = f.output

  fixed-sized : (w : List Temporary) (v u : Value) → Fixed sec w v u → is_sized u ≡ true
  unfolding is_sized is_some
  fixed-sized w v u f = subst (λ (x : Value). is_some x.size ≡ true) (sym f.2) refl

  all_sized : (w : List Temporary) (vs us : List Value) → FixedAll sec w vs us → all is_sized us ≡ true
  unfolding all
  all_sized w [] [] f = refl
  all_sized w [] (u ∷ us) f = absurd f
  all_sized w (v ∷ vs) [] f = absurd f
  all_sized w (v ∷ vs) (u ∷ us) f = all_cons is_sized u us (fixed-sized w v u f.0) (all_sized w vs us f.1)

  option_sized : (w : List Temporary) (x y : Option Value) → FixedOption sec w x y → option_fits is_sized y ≡ true
  unfolding option_fits
  option_sized w none none f = refl
  option_sized w none (some u) f = absurd f
  option_sized w (some v) none f = absurd f
  option_sized w (some v) (some u) f = fixed-sized w v u f

  own_final : (w : List Temporary) (v : Value) (m n : ℕ) → v.size ≡ some n → final_size sec w v ≡ some m → m ≡ n
  unfolding ◌or◌
  own_final w v m n k e = let c = own_size sec w v n k in let d : some n ≡ some m = rw c at e in cc

  has_size_lem : (n : ℕ) (x : Option Value) → ((u : Value) → x ≡ some u → u.size ≡ some n) → has_size n x ≡ true
  unfolding has_size contains
  has_size_lem n none h = refl
  has_size_lem n (some u) h = rw (h u refl) (same n)

  size_at_lem : (a : SemanticAction) (p : Operand) (n : ℕ) → size_at a p ≡ some n → (u : Value) × (at p a ≡ some u) × (u.size ≡ some n)
  unfolding size_at
  size_at_lem a p n e = then_some (at p a) (λ (v : Value). v.size) n e

  -- a step of the rule, in the checker's terms
  step_holds_lem : (w : List Temporary) (a c : SemanticAction) (x : Step) → FixedAction sec w a c → Obeyed sec w a x
      → step_holds (pointer_size sec) c x ≡ true
  unfolding step_holds all_have_size
  step_holds_lem w a c (equal ps) f o = go (first (size_at c) ps) refl
    where
      go : (x : Option ℕ) → first (size_at c) ps ≡ x → all_have_size c ps x ≡ true
      go none e = refl
      go (some n) e = all_from (λ p. has_size n (at p c)) ps each
        where
          each : (i : ℕ) (p : Operand) → get_elem? ps i ≡ some p → has_size n (at p c) ≡ true
          each i p ip = has_size_lem n (at p c) sizes
            where
              sizes : (u : Value) → at p c ≡ some u → u.size ≡ some n
              sizes u e₁ =
                  let q = first_from (size_at c) ps n e in
                  let s = size_at_lem c q.1 n q.3 in
                  let here = fixed-some w (at p a) u (subst (FixedOption sec w (at p a)) e₁ (fixed_at w a c p f)) in
                  let there = fixed-some w (at q.1 a) s.0
                  (subst (FixedOption sec w (at q.1 a)) s.1 (fixed_at w a c q.1 f)) in
                  let m = o i q.0 p q.1 here.0 there.0 here.1 there.1 ip q.2 here.2 there.2 here.3
                  there.3 in
                  let k : some there.1 ≡ some n = ap (λ (x : Value). x.size) (sym there.4) ∙ s.2 in
                  ap (λ (x : Value). x.size) here.4 ∙ ap some m ∙ k
  step_holds_lem w a c (exactly p z) f o = has_size_lem _ (at p c) sizes
    where
      sizes : (u : Value) → at p c ≡ some u → u.size ≡ some (fixed_size (pointer_size sec) z)
      sizes u e =
          let here = fixed-some w (at p a) u (subst (FixedOption sec w (at p a)) e (fixed_at w a c p f)) in
          ap (λ (x : Value). x.size) here.4 ∙ ap some
          (own_final w here.0 here.1 _ (o here.0 here.2) here.3)
  step_holds_lem w a c (by_default p z) f o = refl

  steps_hold : (w : List Temporary) (a c : SemanticAction) (xs : List Step) → FixedAction sec w a c → AllObeyed sec w a xs
      → all (step_holds (pointer_size sec) c) xs ≡ true
  unfolding all
  steps_hold w a c [] f o = refl
  steps_hold w a c (x ∷ xs) f o = all_cons (step_holds (pointer_size sec) c) x xs (step_holds_lem w a c x f o.0)
      (steps_hold w a c xs f o.1)

  sized-holds : (w : List Temporary) (a c : SemanticAction) (o : Option Operation) → FixedAction sec w a c → AllObeyed sec w a (steps_of o)
      → operation_holds (pointer_size sec) o c ≡ true
  unfolding operation_holds
  sized-holds w a c none f o = refl
  sized-holds w a c (some op) f o = both (both (all_sized w a.inputs c.inputs f.inputs)
      (option_sized w a.output c.output f.output)) (steps_hold w a c (steps_of (some op)) f o)

  -- a copy made of a subpiece
  copy_holds : (n z : ℕ) (vs us : List Value) (o : Option Value) → all is_sized vs ≡ true → option_fits is_sized o ≡ true
      → and_then o (λ (v : Value). v.size) ≡ some z → SlicedInputs sec n z vs us
      → operation_holds (pointer_size sec) (some Operation.Copy)
      (record { kind = ActionKind.Op Operation.Copy; number = 0; inputs = us; output = o }) ≡ true
  unfolding operation_holds steps_of rule_of rules operations_opens step_holds all_have_size size_at has_size at contains is_sized option_fits
  copy_holds n z vs us none i o e s = none_some {x = none} refl e
  copy_holds n z [] [] (some v) i o e s = rw e (rw (same z))
  copy_holds n z [] (u ∷ us) (some v) i o e s = absurd s
  copy_holds n z (x ∷ vs) [] (some v) i o e s = absurd s
  copy_holds n z (x ∷ vs) (u ∷ us) (some v) i o e s =
      let su : u.size ≡ some z = ap (λ (q : Value). q.size) s.1 in
      let sv : v.size ≡ some z = e in
      rw (su, sv, s.2, same z, (all_parts is_sized x vs i).1)

  copied_holds : (w : List Temporary) (a c y : SemanticAction) → FixedAction sec w a c → Copied sec c y
      → sizes_hold (pointer_size sec) y ≡ true
  unfolding sizes_hold operation_of
  copied_holds w a c y f k =
      let copy : SemanticAction = record { kind = ActionKind.Op Operation.Copy; number = 0; inputs = y.inputs; output = c.output } in
      let e : copy ≡ y = λ i. record {
        kind = sym k.kind i;
        number = sym k.number i;
        inputs = y.inputs;
        output = sym k.output i;
      } in
      subst (λ (x : SemanticAction). sizes_hold (pointer_size sec) x ≡ true) e
      (copy_holds c.number k.size c.inputs y.inputs c.output (all_sized w a.inputs c.inputs f.inputs)
      (option_sized w a.output c.output f.output) k.sized k.inputs)

  final_holds : (w : List Temporary) (x y : SemanticAction) → Obeys sec w x → Finished sec w x y → sizes_hold (pointer_size sec) y ≡ true
  unfolding sizes_hold operation_holds
  final_holds w x y o (end.unchanged k e) = rw (e, k) refl
  final_holds w x y o (end.sized op k d f) =
      subst (λ (z : ActionKind). operation_holds (pointer_size sec) (operation_of z) y ≡ true) (sym f.kind)
      (sized-holds w x y (operation_of x.kind) f o)
  final_holds w x y o (end.copied op k d c f g) = copied_holds w x c y f g

  pub sizes_hold_lem : (w : List Temporary) (xs ys : List SemanticAction) → Each (Obeys sec w) xs → FinishedAll sec w xs ys
      → all (sizes_hold (pointer_size sec)) ys ≡ true
  unfolding all
  sizes_hold_lem w xs ys o (ended) = refl
  sizes_hold_lem w xs ys o (next {x = x} {y = y} {xs = xr} {ys = yr} f r) =
      all_cons (sizes_hold (pointer_size sec)) y yr (final_holds w x y o.0 f) (sizes_hold_lem w xr yr o.1 r)
