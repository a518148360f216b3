-- The end, where it is done with no error recorded: what it makes of each action that the forward pass leaves.
use Prim.Native.Nat.{ℕ, ◌+◌, ◌≤◌}
use mathlib.Core.Path.{◌≡◌, refl, sym, ◌∙◌, ap, subst}
use mathlib.Core.Bool.{Bool, true, false}
use mathlib.Core.List.{List, [], ◌∷◌, ◌++◌}
use mathlib.Core.Option.{Option, none, some}
use lib.ListN.{length}
use Rattle.prelude.specs.Base.{when◌then◌else◌, and_then}
use Rattle.definition.specs.Refusals.{Refusal, subpiece_size}
use Rattle.definition.specs.Operations.{Operation, is_op}
use Rattle.definition.specs.Value.{Value, truncate, slice_bytes, ActionKind, SemanticAction, operation_of, Temporary, Export}
use Rattle.definition.specs.Ast.{Section}
use Rattle.definition.specs.Sizes.{Sizing, fix_to, fix_size, fix_inputs, fix_output, fix_operands, backward_pass, forward_pass, apply_size_inference}
use Rattle.definition.specs.Walk.{State, Env, Outcome, done, stopped, on, Walk, require, expect, sliced, with_sizing}
use Rattle.definition.specs.End.{sliced_inputs, subpiece_copy, finish_op, finish_actions, finish_export, implicit_builds, no_errors, Semantics, finish}
use Rattle.std.proofs.lemmas.Bool.{leb-true}
use Rattle.definition_guarantee.proofs.Rules.{final_size}

-- a step that is done, taken apart

pub on_done : {A B : Type 0} (e : Env) (m : Outcome A) (f : A → Walk B) (b : B) (u : State) → on e m f ≡ done b u
    → (a : A) × (t : State) × (m ≡ done a t) × (f a e t ≡ done b u)
unfolding on
on_done e (done a t) f b u h = (a, t, refl, h)
on_done e (stopped r o n) f b u h = cc

pub done_value : {A : Type 0} {a b : A} {s t : State} → done a s ≡ done b t → a ≡ b
done_value h = cc

pub done_state : {A : Type 0} {a b : A} {s t : State} → done a s ≡ done b t → s ≡ t
done_state h = cc

pub never_stopped : {A B : Type 0} {a : A} {s : State} {r : Refusal} {o : Option ℕ} {n : ℕ} → stopped r o n ≡ done a s → B
never_stopped {A} {B} h = cc

snoc_empty : {A B : Type 0} (xs : List A) (x : A) → xs ++ (x ∷ []) ≡ [] → B
snoc_empty [] x e = cc
snoc_empty (y ∷ xs) x e = cc

module _ (sec : Section) where
  -- a value with its final size
  abbrev pub Fixed : List Temporary → Value → Value → Type 0
  Fixed w v u = (m : ℕ) × (final_size sec w v ≡ some m) × (u ≡ truncate m v)

  abbrev pub FixedAll : List Temporary → List Value → List Value → Type 0
  FixedAll w [] [] = Unit {0}
  FixedAll w [] (u ∷ us) = ⊥
  FixedAll w (v ∷ vs) [] = ⊥
  FixedAll w (v ∷ vs) (u ∷ us) = Fixed w v u × FixedAll w vs us

  abbrev pub FixedOption : List Temporary → Option Value → Option Value → Type 0
  FixedOption w none none = Unit {0}
  FixedOption w none (some u) = ⊥
  FixedOption w (some v) none = ⊥
  FixedOption w (some v) (some u) = Fixed w v u

  pub record FixedAction (w : List Temporary) (a c : SemanticAction) : Type 0 where
    pub kind : c.kind ≡ a.kind
    pub number : c.number ≡ a.number
    pub inputs : FixedAll w a.inputs c.inputs
    pub output : FixedOption w a.output c.output

  fix_value : (v : Value) (x : Option ℕ) (s : Sizing) → final_size sec s.temporaries v ≡ x → (fix_to sec v x s).1.errors ≡ []
      → ((fix_to sec v x s).1 ≡ s) × Fixed s.temporaries v (fix_to sec v x s).0
  unfolding fix_to
  fix_value v (some n) s e h = (refl, (n, e, refl))
  fix_value v none s e h = snoc_empty s.errors s.begun h

  fix_one : (v : Value) (s : Sizing) → (fix_size sec v s).1.errors ≡ []
      → ((fix_size sec v s).1 ≡ s) × Fixed s.temporaries v (fix_size sec v s).0
  unfolding fix_size
  fix_one v s h = fix_value v _ s refl h

  fix_inputs_lem : (vs : List Value) (s : Sizing) → (fix_inputs sec vs s).1.errors ≡ []
      → ((fix_inputs sec vs s).1 ≡ s) × FixedAll s.temporaries vs (fix_inputs sec vs s).0
  unfolding fix_inputs
  fix_inputs_lem [] s h = (refl, tt)
  fix_inputs_lem (v ∷ vs) s h =
      let t : Sizing = (fix_size sec v s).1 in
      let r = fix_inputs_lem vs t h in
      let q = fix_one v s (ap (λ (x : Sizing). x.errors) (sym r.0) ∙ h) in
      (r.0 ∙ q.0, (q.1, subst (λ (x : Sizing). FixedAll x.temporaries vs (fix_inputs sec vs t).0) q.0 r.1))

  fix_output_lem : (o : Option Value) (s : Sizing) → (fix_output sec o s).1.errors ≡ []
      → ((fix_output sec o s).1 ≡ s) × FixedOption s.temporaries o (fix_output sec o s).0
  unfolding fix_output
  fix_output_lem none s h = (refl, tt)
  fix_output_lem (some v) s h = fix_one v s h

  pub fix_operands_lem : (a : SemanticAction) (s : Sizing) → (fix_operands sec a s).1.errors ≡ []
      → ((fix_operands sec a s).1 ≡ s) × FixedAction s.temporaries a (fix_operands sec a s).0
  unfolding fix_operands
  fix_operands_lem a s h =
      let t : Sizing = (fix_inputs sec a.inputs s).1 in
      let o = fix_output_lem a.output t h in
      let i = fix_inputs_lem a.inputs s (ap (λ (x : Sizing). x.errors) (sym o.0) ∙ h) in (
        o.0 ∙ i.0,
        record {
          kind = refl;
          number = refl;
          inputs = i.1;
          output = subst (λ (x : Sizing). FixedOption x.temporaries a.output (fix_output sec a.output t).0) i.0 o.1;
        },
      )

  -- a subpiece becomes a copy

  abbrev pub SlicedInputs : ℕ → ℕ → List Value → List Value → Type 0
  SlicedInputs more size [] [] = Unit {0}
  SlicedInputs more size [] (u ∷ us) = ⊥
  SlicedInputs more size (v ∷ vs) [] = ⊥
  SlicedInputs more size (v ∷ vs) (u ∷ us) = (v.offset + more ≤ 65535) × (u ≡ slice_bytes more size v) × (us ≡ vs)

  pub record Copied (c y : SemanticAction) : Type 0 where
    pub size : ℕ
    pub sized : and_then c.output (λ (v : Value). v.size) ≡ some size
    pub kind : y.kind ≡ ActionKind.Op Operation.Copy
    pub number : y.number ≡ 0
    pub inputs : SlicedInputs c.number size c.inputs y.inputs
    pub output : y.output ≡ c.output

  expect-done : {A : Type 0} (r : Refusal) (x : Option A) (e : Env) (s t : State) (a : A) → expect r x e s ≡ done a t
      → (x ≡ some a) × (t ≡ s)
  unfolding expect
  expect-done r (some b) e s t a h = (ap some (done_value h), sym (done_state h))
  expect-done r none e s t a h = never_stopped h

  pub require-done : (b : Bool) (r : Refusal) (e : Env) (s t : State) (x : Unit {0}) → require b r e s ≡ done x t → (b ≡ true) × (t ≡ s)
  unfolding require
  require-done true r e s t x h = (refl, sym (done_state h))
  require-done false r e s t x h = never_stopped h

  sliced-done : (more size : ℕ) (v u : Value) (e : Env) (s t : State) → sliced more size v e s ≡ done u t
      → (v.offset + more ≤ 65535) × (u ≡ slice_bytes more size v) × (t ≡ s)
  unfolding sliced
  sliced-done more size v u e s t h =
      let p = on_done e _ _ u t h in
      let q = require-done _ _ e s p.1 p.0 p.2 in
      (leb-true _ _ q.0, sym (done_value p.3), sym (done_state p.3) ∙ q.1)

  inputs-done : (more size : ℕ) (vs us : List Value) (e : Env) (s t : State) → sliced_inputs more size vs e s ≡ done us t
      → SlicedInputs more size vs us × (t ≡ s)
  unfolding sliced_inputs
  inputs-done more size [] us e s t h = (subst (SlicedInputs more size []) (done_value h) tt, sym (done_state h))
  inputs-done more size (v ∷ vs) us e s t h =
      let p = on_done e _ _ us t h in
      let q = sliced-done more size v p.0 e s p.1 p.2 in
      (subst (SlicedInputs more size (v ∷ vs)) (done_value p.3) (q.0, q.1, refl), sym (done_state p.3) ∙ q.2)

  copy_done : (c y : SemanticAction) (e : Env) (s t : State) → subpiece_copy c e s ≡ done y t → Copied c y × (t ≡ s)
  unfolding subpiece_copy
  copy_done c y e s t h =
      let p = on_done e _ _ y t h in
      let q = expect-done subpiece_size _ e s p.1 p.0 p.2 in
      let i = on_done e _ _ y t p.3 in
      let j = inputs-done c.number p.0 c.inputs i.0 e p.1 i.1 i.2 in (
        subst (Copied c) (done_value i.3) (record {
          size = p.0;
          sized = q.0;
          kind = refl;
          number = refl;
          inputs = j.0;
          output = refl;
        }),
        sym (done_state i.3) ∙ j.1 ∙ q.1,
      )

  -- the end of an action
  pub data Finished (w : List Temporary) (x y : SemanticAction) : Type 0 where
    unchanged : operation_of x.kind ≡ none → y ≡ x → Finished w x y
    sized : (op : Operation) → operation_of x.kind ≡ some op → is_op Operation.Subpiece op ≡ false → FixedAction w x y → Finished w x y
    copied : (op : Operation) → operation_of x.kind ≡ some op → is_op Operation.Subpiece op ≡ true → (c : SemanticAction)
        → FixedAction w x c → Copied c y → Finished w x y

  pub data FinishedAll (w : List Temporary) : List SemanticAction → List SemanticAction → Type 0 where
    ended : FinishedAll w [] []
    next : {x y : SemanticAction} {xs ys : List SemanticAction} → Finished w x y → FinishedAll w xs ys → FinishedAll w (x ∷ xs) (y ∷ ys)

module _ (e : Env) where
  abbrev sec : Section
  sec = e.section

  same-sizing : (s : State) (x : Sizing) → x ≡ s.sizing → with_sizing x s ≡ s
  same-sizing s x h = rw h

  finished-op : (o : Option Operation) (x y : SemanticAction) (s t : State) → operation_of x.kind ≡ o → finish_op o x e s ≡ done y t
      → t.sizing.errors ≡ []
      → (t ≡ s) × Finished sec s.sizing.temporaries x y
  unfolding finish_op on
  finished-op none x y s t k h n = (sym (done_state h), unchanged k (sym (done_value h)))
  finished-op (some op) x y s t k h n = go (is_op Operation.Subpiece op) refl h
    where
      b : SemanticAction
      b = (fix_operands sec x s.sizing).0

      u : State
      u = with_sizing (fix_operands sec x s.sizing).1 s

      ends : t ≡ u → ((fix_operands sec x s.sizing).1 ≡ s.sizing) × FixedAction sec s.sizing.temporaries x b
      ends c = fix_operands_lem sec x s.sizing (ap (λ (q : State). q.sizing.errors) (sym c) ∙ n)

      go : (c : Bool) → is_op Operation.Subpiece op ≡ c → (when c then subpiece_copy b else (λ f q. done b q)) e u ≡ done y t
          → (t ≡ s) × Finished sec s.sizing.temporaries x y
      go true d h =
          let p = copy_done sec b y e u t h in
          let f = ends p.1 in
          (p.1 ∙ same-sizing s _ f.0, copied op k d b f.1 p.0)
      go false d h =
          let f = ends (sym (done_state h)) in (
            sym (done_state h) ∙ same-sizing s _ f.0,
            sized op k d (subst (FixedAction sec s.sizing.temporaries x) (done_value h) f.1),
          )

  pub finished : (xs ys : List SemanticAction) (s t : State) → finish_actions xs e s ≡ done ys t → t.sizing.errors ≡ []
      → (t ≡ s) × FinishedAll sec s.sizing.temporaries xs ys
  unfolding finish_actions
  finished [] ys s t h n = (sym (done_state h), subst (FinishedAll sec s.sizing.temporaries []) (done_value h) ended)
  finished (x ∷ xs) ys s t h n =
      let p = on_done e _ _ ys t h in
      let q = on_done e _ _ ys t p.3 in
      let r = finished xs q.0 p.1 q.1 q.2 (ap (λ (z : State). z.sizing.errors) (done_state q.3) ∙ n) in
      let f = finished-op (operation_of x.kind) x p.0 s p.1 refl p.2
      (ap (λ (z : State). z.sizing.errors) (sym r.0 ∙ done_state q.3) ∙ n) in (
        sym (done_state q.3) ∙ r.0 ∙ f.0,
        subst (FinishedAll sec s.sizing.temporaries (x ∷ xs)) (done_value q.3)
            (next f.1 (subst (λ (z : State). FinishedAll sec z.sizing.temporaries xs q.0) f.0 r.1)),
      )

  export-done : (x y : Option Export) (s t : State) → finish_export x e s ≡ done y t → t.sizing.errors ≡ [] → t ≡ s
  unfolding finish_export on
  export-done none y s t h n = sym (done_state h)
  export-done (some x) y s t h n =
      let c : t ≡ with_sizing (fix_size sec x.value s.sizing).1 s = sym (done_state h) in
      c ∙ same-sizing s _ (fix_one sec x.value s.sizing (ap (λ (q : State). q.sizing.errors) (sym c) ∙ n)).0

  no_errors_lem : (xs : List (Option ℕ)) (s t : State) (x : Unit {0}) → no_errors xs e s ≡ done x t → (xs ≡ []) × (t ≡ s)
  unfolding no_errors
  no_errors_lem [] s t x h = (refl, sym (done_state h))
  no_errors_lem (o ∷ xs) s t x h = never_stopped h

  -- the end as a whole, from the state that the walk has left
  module _ (s : State) where
    abbrev pub inferred : List SemanticAction × Sizing
    inferred = forward_pass sec (backward_pass sec s.actions s.sizing).0 (backward_pass sec s.actions s.sizing).1

    pub record Ended (x : Semantics) : Type 0 where
      pub final : List SemanticAction
      pub finished : FinishedAll sec inferred.1.temporaries inferred.0 final
      pub actions : x.actions ≡ implicit_builds inferred.0 0 (length sec.subtables) ++ final
      pub temporaries : x.temporaries ≡ inferred.1.temporaries

    pub end-done : (x : Semantics) (t : State) → finish e s ≡ done x t → Ended x
    unfolding finish on apply_size_inference
    end-done x t h =
        let u : State = with_sizing inferred.1 s in
        let p = on_done e _ _ x t h in
        let q = on_done e _ _ x t p.3 in
        let r = on_done e _ _ x t q.3 in
        let n = no_errors_lem q.1.sizing.errors q.1 r.1 r.0 r.2 in
        let d = export-done s.export q.0 p.1 q.1 q.2 n.0 in
        let f = finished inferred.0 p.0 u p.1 p.2 (ap (λ (z : State). z.sizing.errors) (sym d) ∙ n.0) in
        record {
          final = p.0;
          finished = f.1;
          actions = ap (λ (z : Semantics). z.actions) (sym (done_value r.3));
          temporaries = ap (λ (z : Semantics). z.temporaries) (sym (done_value r.3))
              ∙ ap (λ (z : State). z.sizing.temporaries) (d ∙ f.0);
        }
