-- Layout through sizes: setting sizes, the passes and the end keep every action's shape and every value within its words.
use Prim.Native.Nat.{ℕ, zero, suc, ◌+◌, ◌≤◌, ◌<◌}
use mathlib.Core.Path.{◌≡◌, refl, sym, ◌∙◌, ap, subst}
use mathlib.Core.Logic.{◌⊎◌, inl, inr}
use mathlib.Core.Bool.{Bool, true, false, ◌||◌}
use mathlib.Core.List.{List, [], ◌∷◌}
use mathlib.Core.Option.{Option, none, some}
use native.Mathlib.Omega.{arith}
use lib.Dec.{eqb}
use lib.ListN.{length, get_elem?}
use Rattle.prelude.specs.Base.{when◌then◌else◌, ◌or◌, or_else, and_then, is_some, all, first, contains}
use Rattle.definition.specs.Operations.{Operation, operation_number, is_op}
use Rattle.definition.specs.Value.{Kind, Value, is_kind, truncate, slice_bytes, ActionKind, SemanticAction, operation_of, Temporary}
use Rattle.definition.specs.Ast.{Register, Field, Section}
use Rattle.definition.specs.Sizes.{Operand, in0, in1, out, FixedSize, one, pointer, Step, equal, exactly, by_default, rules, rule_of, steps_of, at, put, Sizing, pointer_size, export_size_of, size_of_local, size_of, fallback_size, set_size, set_given, set_operand, set_operands, known_at, share_size, set_size_of_all, fixed_size, set_unsized, apply_step, apply_steps, update_operand_sizes, backward_pass, forward_pass, but_first}
use Rattle.definition.specs.Checker.{Shape, shapes, shape_of, counts_fit, same_count, option_fits, value_fits, layout_fits, base_fits}
use Rattle.definition.proofs.Openers.{operations_opens}
use Rattle.definition_guarantee.specs.Tests.{Each}
use Rattle.std.proofs.lemmas.Bool.{eqb-true, eq-eqb}
use Rattle.definition_guarantee.proofs.Tests.{clash, same, all_parts, all_set, all_cons, first_from, then_some, none_some}
use Rattle.definition_guarantee.proofs.Growth.{tmp_size, Touched}
use Rattle.definition_guarantee.proofs.Rules.{Alike, sets, final_size}
use Rattle.definition_guarantee.proofs.Finish as end
use Rattle.definition_guarantee.proofs.Finish.{Fixed, FixedAll, FixedOption, FixedAction, SlicedInputs, Finished, FinishedAll, ended, next}
use Rattle.definition_guarantee.proofs.Words.{Fits, fits_parts, parts_fit, Shaped, Laid, laid_fits, subpiece_shapeless}

-- sizes that fit a word
pub record SmallSizes (ts : List Temporary) : Type 0 where
  pub small : (i n : ℕ) → tmp_size ts i ≡ some n → n < 65535

pub record SmallSection (sec : Section) : Type 0 where
  pub registers : (i : ℕ) (x : Register) → get_elem? sec.registers i ≡ some x → x.size < 65535
  pub fields : (i n : ℕ) (x : Field) → get_elem? sec.fields i ≡ some x → x.size ≡ some n → n < 65535
  pub exports : (i n : ℕ) → export_size_of sec i ≡ some n → n < 65535
  pub pointer : pointer_size sec < 65535

-- An action as the walk leaves it: its layout fits, or it is a subpiece, which the end turns into a copy.
pub data Rough (t sub : ℕ) (a : SemanticAction) : Type 0 where
  laid_out : Laid t sub a → Rough t sub a
  subpiece : (v o : Value) → a.kind ≡ ActionKind.Op Operation.Subpiece → a.inputs ≡ v ∷ [] → a.output ≡ some o → a.number ≤ 255
      → Fits t sub v → Fits t sub o → Rough t sub a

pub touched_small : (n : ℕ) (ts us : List Temporary) → n < 65535 → Touched n ts us → SmallSizes ts → SmallSizes us
touched_small n ts us h t s = record { small = λ i m e. go i m e (t.only i) }
  where
    go : (i m : ℕ) → tmp_size us i ≡ some m → (tmp_size us i ≡ tmp_size ts i) ⊎ (tmp_size us i ≡ some n) → m < 65535
    go i m e (inl d) = s.small i m (sym d ∙ e)
    go i m e (inr d) = let k : n ≡ m = cc in rw (← k) h

module _ (sec : Section) (limits : SmallSection sec) where
  local-small : (ts : List Temporary) (k : Kind) (i n : ℕ) → SmallSizes ts → size_of_local sec ts k i ≡ some n → n < 65535
  unfolding size_of_local
  local-small ts Kind.InstStart i n s e = none_some {x = none} refl e
  local-small ts Kind.InstNext i n s e = none_some {x = none} refl e
  local-small ts Kind.Register i n s e = let q = then_some (get_elem? sec.registers i) _ n e in let d : q.0.size ≡ n = cc q.2 in
      rw (← d) (limits.registers i q.0 q.1)
  local-small ts Kind.Field i n s e = let q = then_some (get_elem? sec.fields i) (λ (x : Field). x.size) n e in
      limits.fields i n q.0 q.1 q.2
  local-small ts Kind.Subtable i n s e = limits.exports i n e
  local-small ts Kind.SubtableRef i n s e = limits.exports i n e
  local-small ts Kind.PcodeTmp i n s e = s.small i n e
  local-small ts Kind.Constant i n s e = none_some {x = none} refl e

  own_small : (z : Option ℕ) (n : ℕ) → or_else 0 z < 65535 → z ≡ some n → n < 65535
  unfolding or_else
  own_small none n h e = none_some {x = none} refl e
  own_small (some m) n h e = let d : m ≡ n = cc in rw (← d) h

  pub known_small : (t sub : ℕ) (ts : List Temporary) (v : Value) (n : ℕ) → SmallSizes ts → Fits t sub v → size_of sec ts v ≡ some n
      → n < 65535
  unfolding size_of ◌or◌
  known_small t sub ts v n s f e = go v.size refl e
    where
      go : (z : Option ℕ) → v.size ≡ z → z or size_of_local sec ts v.kind v.number ≡ some n → n < 65535
      go (some m) d e = own_small v.size n f.size (d ∙ e)
      go none d e = local-small ts v.kind v.number n s e

  pub fallback_small : (v : Value) (n : ℕ) → fallback_size sec v ≡ some n → n < 65535
  unfolding fallback_size
  fallback_small v n e = go (is_kind Kind.InstStart v || is_kind Kind.InstNext v || is_kind Kind.Constant v || is_kind Kind.Field v) e
    where
      go : (b : Bool) → (when b then some (pointer_size sec) else none) ≡ some n → n < 65535
      go true e = let d : pointer_size sec ≡ n = cc in rw (← d) limits.pointer
      go false e = none_some {x = none} refl e

  pub final_small : (t sub : ℕ) (w : List Temporary) (v : Value) (n : ℕ) → SmallSizes w → Fits t sub v → final_size sec w v ≡ some n
      → n < 65535
  unfolding ◌or◌
  final_small t sub w v n s f e = go (size_of sec w v) refl e
    where
      go : (z : Option ℕ) → size_of sec w v ≡ z → z or fallback_size sec v ≡ some n → n < 65535
      go (some m) d e = known_small t sub w v n s f (d ∙ e)
      go none d e = fallback_small v n e

  fixed-small : (z : FixedSize) → fixed_size (pointer_size sec) z < 65535
  unfolding fixed_size
  fixed-small one = omega arith
  fixed-small pointer = limits.pointer

  -- an operation being sized, with t temporaries
  module _ (t sub : ℕ) where
    pub truncate-fits : (n : ℕ) (v : Value) → n < 65535 → Fits t sub v → Fits t sub (truncate n v)
    unfolding or_else
    truncate-fits n v h f = record { number = f.number; offset = f.offset; size = h }

    pub record Good (op : Operation) (a : SemanticAction) (s : Sizing) : Type 0 where
      pub kind : a.kind ≡ ActionKind.Op op
      pub laid : Laid t sub a
      pub sizes : SmallSizes s.temporaries

    get-fits : (vs : List Value) (i : ℕ) (v : Value) → all (value_fits t sub) vs ≡ true → get_elem? vs i ≡ some v → Fits t sub v
    get-fits [] i v h e = none_some {x = none} refl e
    get-fits (u ∷ vs) zero v h e = let d : u ≡ v = cc in subst (Fits t sub) d (fits_parts (all_parts (value_fits t sub) u vs h).0)
    get-fits (u ∷ vs) (suc i) v h e = get-fits vs i v (all_parts (value_fits t sub) u vs h).1 e

    option_fits_lem : (o : Option Value) (v : Value) → option_fits (value_fits t sub) o ≡ true → o ≡ some v → Fits t sub v
    unfolding option_fits
    option_fits_lem none v h e = none_some {x = none} refl e
    option_fits_lem (some u) v h e = let d : u ≡ v = cc in subst (Fits t sub) d (fits_parts h)

    pub at_fits : (p : Operand) (a : SemanticAction) (v : Value) → Laid t sub a → at p a ≡ some v → Fits t sub v
    unfolding at
    at_fits in0 a v l e = get-fits a.inputs 0 v l.inputs e
    at_fits in1 a v l e = get-fits a.inputs 1 v l.inputs e
    at_fits out a v l e = option_fits_lem a.output v l.output e

    op-base : (op : Operation) (k : ActionKind) (vs : List Value) → k ≡ ActionKind.Op op → base_fits k vs ≡ true
    unfolding base_fits
    op-base op k vs e = rw e

    counts_same : (a b : SemanticAction) (shape : Shape) → length b.inputs ≡ length a.inputs
        → is_some b.output ≡ is_some a.output → counts_fit shape a ≡ true → counts_fit shape b ≡ true
    unfolding counts_fit
    counts_same a b shape i o h = rw (i, o) h

    shaped_same : (a b : SemanticAction) → b.kind ≡ a.kind → b.number ≡ a.number → length b.inputs ≡ length a.inputs
        → is_some b.output ≡ is_some a.output → Shaped t sub a → Shaped t sub b
    shaped_same a b k n i o s = record {
      shape = s.shape;
      is = ap (shape_of t sub) k ∙ s.is;
      counts = counts_same a b s.shape i o s.counts;
      number = rw n s.number;
    }

    put-inputs : (p : Operand) (v : Value) (a : SemanticAction) → Laid t sub a → Fits t sub v
        → all (value_fits t sub) (put p v a).inputs ≡ true
    unfolding put
    put-inputs in0 v a l f = all_set (value_fits t sub) a.inputs 0 v l.inputs (parts_fit f)
    put-inputs in1 v a l f = all_set (value_fits t sub) a.inputs 1 v l.inputs (parts_fit f)
    put-inputs out v a l f = l.inputs

    put-output : (p : Operand) (v : Value) (a : SemanticAction) → Laid t sub a → Fits t sub v
        → option_fits (value_fits t sub) (put p v a).output ≡ true
    unfolding put option_fits
    put-output in0 v a l f = l.output
    put-output in1 v a l f = l.output
    put-output out v a l f = parts_fit f

    given_laid : (op : Operation) (n : ℕ) (p : Operand) (a : SemanticAction) (s : Sizing) (x : Option Value) → at p a ≡ x → n < 65535
        → a.kind ≡ ActionKind.Op op → Laid t sub a
        → Alike a (set_given sec n p x a s).0 → Laid t sub (set_given sec n p x a s).0
    unfolding set_given set_size
    given_laid op n p a s none e h k l z = l
    given_laid op n p a s (some v) e h k l z =
        let f = truncate-fits n v h (at_fits p a v l e) in
        record {
          shaped = shaped_same a (put p (truncate n v) a) z.kind z.number z.inputs z.output l.shaped;
          inputs = put-inputs p (truncate n v) a l f;
          output = put-output p (truncate n v) a l f;
          base = op-base op _ _ (z.kind ∙ k);
        }

    set_good : (op : Operation) (n : ℕ) (p : Operand) (a : SemanticAction) (s : Sizing) → n < 65535 → Good op a s
        → Good op (set_operand sec n p a s).0 (set_operand sec n p a s).1
    unfolding set_operand
    set_good op n p a s h g =
        let z = sets sec n p a s in
        record {
          kind = z.alike.kind ∙ g.kind;
          laid = given_laid op n p a s (at p a) refl h g.kind g.laid z.alike;
          sizes = touched_small n _ _ h z.touched g.sizes;
        }

    sets_good : (op : Operation) (n : ℕ) (ps : List Operand) (a : SemanticAction) (s : Sizing) → n < 65535 → Good op a s
        → Good op (set_operands sec n ps a s).0 (set_operands sec n ps a s).1
    unfolding set_operands
    sets_good op n [] a s h g = g
    sets_good op n (p ∷ ps) a s h g = sets_good op n ps (set_operand sec n p a s).0 (set_operand sec n p a s).1 h
        (set_good op n p a s h g)

    share_good : (op : Operation) (x y : Option ℕ) (ps : List Operand) (a : SemanticAction) (s : Sizing)
        → ((n : ℕ) → x ≡ some n → n < 65535) → ((n : ℕ) → y ≡ some n → n < 65535) → Good op a s
        → Good op (share_size sec x y ps a s).0 (share_size sec x y ps a s).1
    unfolding share_size
    share_good op (some n) y ps a s h k g = go (all (λ p. contains n (known_at sec a s p)) ps)
      where
        qs : List Operand
        qs = but_first (λ p. is_some (known_at sec a s p)) ps

        go : (b : Bool) → Good op (when b then (a, s) else set_operands sec n qs a s).0
            (when b then (a, s) else set_operands sec n qs a s).1
        go true = g
        go false = sets_good op n qs a s (h n refl) g
    share_good op none (some n) ps a s h k g = sets_good op n ps a s (k n refl) g
    share_good op none none ps a s h k g = g

    first_known : (op : Operation) (ps : List Operand) (a : SemanticAction) (s : Sizing) → Good op a s → (n : ℕ)
        → first (known_at sec a s) ps ≡ some n → n < 65535
    first_known op ps a s g n e =
        let q = first_from (known_at sec a s) ps n e in
        let r = then_some (at q.1 a) (size_of sec s.temporaries) n q.3 in
        known_small t sub s.temporaries r.0 n g.sizes (at_fits q.1 a r.0 g.laid r.1) r.2

    first_fallback : (late : Bool) (ps : List Operand) (a : SemanticAction) (n : ℕ)
        → (when late then first (λ p. and_then (at p a) (fallback_size sec)) ps else none) ≡ some n → n < 65535
    first_fallback true ps a n e =
        let q = first_from (λ p. and_then (at p a) (fallback_size sec)) ps n e in
        let r = then_some (at q.1 a) (fallback_size sec) n q.3 in
        fallback_small r.0 n r.2
    first_fallback false ps a n e = none_some {x = none} refl e

    unsized_good : (op : Operation) (x : Option ℕ) (n : ℕ) (p : Operand) (a : SemanticAction) (s : Sizing) → n < 65535 → Good op a s
        → Good op (set_unsized sec x n p a s).0 (set_unsized sec x n p a s).1
    unfolding set_unsized
    unsized_good op (some m) n p a s h g = g
    unsized_good op none n p a s h g = set_good op n p a s h g

    step_good : (op : Operation) (late : Bool) (x : Step) (a : SemanticAction) (s : Sizing) → Good op a s
        → Good op (apply_step sec late x a s).0 (apply_step sec late x a s).1
    unfolding apply_step set_size_of_all
    step_good op late (equal ps) a s g = share_good op _ _ ps a s (first_known op ps a s g) (first_fallback late ps a) g
    step_good op late (exactly p z) a s g = set_good op (fixed_size (pointer_size sec) z) p a s (fixed-small z) g
    step_good op late (by_default p z) a s g = unsized_good op _ (fixed_size (pointer_size sec) z) p a s (fixed-small z) g

    steps_good : (op : Operation) (late : Bool) (xs : List Step) (a : SemanticAction) (s : Sizing) → Good op a s
        → Good op (apply_steps sec late xs a s).0 (apply_steps sec late xs a s).1
    unfolding apply_steps
    steps_good op late [] a s g = g
    steps_good op late (x ∷ xs) a s g = steps_good op late xs (apply_step sec late x a s).0 (apply_step sec late x a s).1
        (step_good op late x a s g)

    -- one action under its rule

    ruled_rough : (late : Bool) (a : SemanticAction) (s : Sizing) (k : ActionKind) → a.kind ≡ k → Laid t sub a
        → SmallSizes s.temporaries
        → Rough t sub (apply_steps sec late (steps_of (operation_of k)) a s).0 × SmallSizes
        (apply_steps sec late (steps_of (operation_of k)) a s).1.temporaries
    unfolding steps_of operation_of apply_steps
    ruled_rough late a s (ActionKind.Op op) e l z =
        let g = steps_good op late (rule_of op) a s (record { kind = e; laid = l; sizes = z }) in
        (laid_out g.laid, g.sizes)
    ruled_rough late a s ActionKind.AddressOf e l z = (laid_out l, z)
    ruled_rough late a s ActionKind.LoadRegister e l z = (laid_out l, z)
    ruled_rough late a s ActionKind.StoreRegister e l z = (laid_out l, z)
    ruled_rough late a s ActionKind.DelaySlot e l z = (laid_out l, z)
    ruled_rough late a s ActionKind.Build e l z = (laid_out l, z)

    subpiece_unruled : (k : ActionKind) → k ≡ ActionKind.Op Operation.Subpiece → steps_of (operation_of k) ≡ []
    unfolding steps_of operation_of rule_of rules operations_opens
    subpiece_unruled k e = rw e

    pub update_rough : (late : Bool) (a : SemanticAction) (s : Sizing) → Rough t sub a → SmallSizes s.temporaries
        → Rough t sub (update_operand_sizes sec late a s).0 × SmallSizes (update_operand_sizes sec late a s).1.temporaries
    unfolding update_operand_sizes apply_steps
    update_rough late a s (laid_out l) z = ruled_rough late a s a.kind refl l z
    update_rough late a s (subpiece v o k i u n f g) z = rw (subpiece_unruled a.kind k) (subpiece v o k i u n f g, z)

    -- the passes

    pub backward_rough : (xs : List SemanticAction) (s : Sizing) → Each (Rough t sub) xs → SmallSizes s.temporaries
        → Each (Rough t sub) (backward_pass sec xs s).0 × SmallSizes (backward_pass sec xs s).1.temporaries
    unfolding backward_pass
    backward_rough [] s r z = (tt, z)
    backward_rough (a ∷ xs) s r z =
        let b = backward_rough xs s r.1 z in
        let h = update_rough false a (backward_pass sec xs s).1 r.0 b.1 in
        ((h.0, b.0), h.1)

    pub forward_rough : (xs : List SemanticAction) (s : Sizing) → Each (Rough t sub) xs → SmallSizes s.temporaries
        → Each (Rough t sub) (forward_pass sec xs s).0 × SmallSizes (forward_pass sec xs s).1.temporaries
    unfolding forward_pass
    forward_rough [] s r z = (tt, z)
    forward_rough (a ∷ xs) s r z =
        let h = update_rough true a s r.0 z in
        let b = forward_rough xs (update_operand_sizes sec true a s).1 r.1 h.1 in
        ((h.0, b.0), b.1)

    -- the end

    module _ (w : List Temporary) (small : SmallSizes w) where
      fixed-fits : (v u : Value) → Fits t sub v → Fixed sec w v u → Fits t sub u
      fixed-fits v u f x = subst (Fits t sub) (sym x.2) (truncate-fits x.0 v (final_small t sub w v x.0 small f x.1) f)

      inputs_fit_lem : (vs us : List Value) → all (value_fits t sub) vs ≡ true → FixedAll sec w vs us → all (value_fits t sub) us ≡ true
      unfolding all
      inputs_fit_lem [] [] h f = refl
      inputs_fit_lem [] (u ∷ us) h f = absurd f
      inputs_fit_lem (v ∷ vs) [] h f = absurd f
      inputs_fit_lem (v ∷ vs) (u ∷ us) h f =
          let k = all_parts (value_fits t sub) v vs h in
          all_cons (value_fits t sub) u us (parts_fit (fixed-fits v u (fits_parts k.0) f.0)) (inputs_fit_lem vs us k.1 f.1)

      inputs_length : (vs us : List Value) → FixedAll sec w vs us → length us ≡ length vs
      inputs_length [] [] f = refl
      inputs_length [] (u ∷ us) f = absurd f
      inputs_length (v ∷ vs) [] f = absurd f
      inputs_length (v ∷ vs) (u ∷ us) f = ap suc (inputs_length vs us f.1)

      output-fits : (x y : Option Value) → option_fits (value_fits t sub) x ≡ true → FixedOption sec w x y
          → option_fits (value_fits t sub) y ≡ true
      unfolding option_fits
      output-fits none none h f = refl
      output-fits none (some u) h f = absurd f
      output-fits (some v) none h f = absurd f
      output-fits (some v) (some u) h f = parts_fit (fixed-fits v u (fits_parts h) f)

      output_there_lem : (x y : Option Value) → FixedOption sec w x y → is_some y ≡ is_some x
      unfolding is_some
      output_there_lem none none f = refl
      output_there_lem none (some u) f = absurd f
      output_there_lem (some v) none f = absurd f
      output_there_lem (some v) (some u) f = refl

      op_kind : (k : ActionKind) (op : Operation) → operation_of k ≡ some op → k ≡ ActionKind.Op op
      unfolding operation_of
      op_kind (ActionKind.Op other) op e = let d : other ≡ op = cc in ap ActionKind.Op d
      op_kind ActionKind.AddressOf op e = none_some {x = none} refl e
      op_kind ActionKind.LoadRegister op e = none_some {x = none} refl e
      op_kind ActionKind.StoreRegister op e = none_some {x = none} refl e
      op_kind ActionKind.DelaySlot op e = none_some {x = none} refl e
      op_kind ActionKind.Build op e = none_some {x = none} refl e

      fixed_laid : (op : Operation) (a c : SemanticAction) → a.kind ≡ ActionKind.Op op → Laid t sub a → FixedAction sec w a c
          → Laid t sub c
      fixed_laid op a c k l f = record {
        shaped = shaped_same a c f.kind f.number (inputs_length a.inputs c.inputs f.inputs)
            (output_there_lem a.output c.output f.output) l.shaped;
        inputs = inputs_fit_lem a.inputs c.inputs l.inputs f.inputs;
        output = output-fits a.output c.output l.output f.output;
        base = op-base op c.kind c.inputs (f.kind ∙ k);
      }

      copy_shaped : (y : SemanticAction) → y.kind ≡ ActionKind.Op Operation.Copy → y.number ≡ 0 → length y.inputs ≡ 1
          → is_some y.output ≡ true → Shaped t sub y
      unfolding shape_of shapes operations_opens counts_fit same_count
      copy_shaped y k n i o = record {
        shape = record { counts = (1, true) ∷ []; below = 1 };
        is = rw k;
        counts = rw (i, o);
        number = rw n (omega arith);
      }

      none_left : (ys : List Value) → length ys ≡ 0 → all (value_fits t sub) ys ≡ true
      unfolding all
      none_left [] e = refl
      none_left (y ∷ ys) e = absurd (omega arith)

      slice_fits : (n z : ℕ) (v : Value) → z < 65535 → v.offset + n ≤ 65535 → Fits t sub v → Fits t sub (slice_bytes n z v)
      unfolding or_else
      slice_fits n z v h k f = record { number = f.number; offset = k; size = h }

      one_input : (n z : ℕ) (v : Value) (vs cs ys : List Value) → z < 65535 → Fits t sub v → vs ≡ v ∷ [] → FixedAll sec w vs cs
          → SlicedInputs sec n z cs ys → (all (value_fits t sub) ys ≡ true) × (length ys ≡ 1)
      one_input n z v [] cs ys h f e x s = cc
      one_input n z v (u ∷ vs) [] ys h f e x s = absurd x
      one_input n z v (u ∷ vs) (c ∷ cs) [] h f e x s = absurd s
      one_input n z v (u ∷ vs) (c ∷ cs) (y ∷ ys) h f e x s =
          let d : v ≡ u = cc in
          let r : vs ≡ [] = cc in
          let g = fixed-fits u c (subst (Fits t sub) d f) x.0 in
          let k : length ys ≡ 0 = ap length s.2 ∙ inputs_length vs cs x.1 ∙ ap length r in (
            all_cons (value_fits t sub) y ys (parts_fit (subst (Fits t sub) (sym s.1) (slice_fits n z c h s.0 g))) (none_left ys k),
            ap suc k,
          )

      output-small : (o : Value) (x y : Option Value) (z : ℕ) → Fits t sub o → x ≡ some o → FixedOption sec w x y
          → and_then y (λ (v : Value). v.size) ≡ some z → (z < 65535) × (is_some y ≡ true) × (option_fits (value_fits t sub) y ≡ true)
      unfolding and_then is_some option_fits
      output-small o none y z f e x s = none_some {x = none} refl e
      output-small o (some v) none z f e x s = absurd x
      output-small o (some v) (some u) z f e x s =
          let d : o ≡ v = cc in
          let g = fixed-fits v u (subst (Fits t sub) d f) x in
          (own_small u.size z g.size s, refl, parts_fit g)

      sixty_six : (op : Operation) → is_op Operation.Subpiece op ≡ true → eqb (operation_number op) 66 ≡ true
      unfolding operation_number
      sixty_six op d = eq-eqb (operation_number op) 66 (sym (eqb-true 66 (operation_number op) d))

      subpiece_kind : (k : ActionKind) → k ≡ ActionKind.Op Operation.Subpiece → operation_of k ≡ some Operation.Subpiece
      unfolding operation_of
      subpiece_kind k e = rw e

      finished_laid : (x y : SemanticAction) → Rough t sub x → Finished sec w x y → Laid t sub y
      finished_laid x y (laid_out l) (end.unchanged k e) = subst (Laid t sub) (sym e) l
      finished_laid x y (laid_out l) (end.sized op k d f) = fixed_laid op x y (op_kind x.kind op k) l f
      finished_laid x y (laid_out l) (end.copied op k d c f g) =
          let s = l.shaped in
          let h = subpiece_shapeless t sub op s.shape (ap (shape_of t sub) (sym (op_kind x.kind op k)) ∙ s.is)
          (eqb (operation_number op) 66) refl in
          clash (sixty_six op d) h
      finished_laid x y (subpiece v o k i u n f g) (end.unchanged c e) = none_some c (subpiece_kind x.kind k)
      finished_laid x y (subpiece v o k i u n f g) (end.sized op c d h) = let q : Operation.Subpiece ≡ op =
          cc (subpiece_kind x.kind k) in clash
          (subst (λ (z : Operation). is_op Operation.Subpiece z ≡ true) q (same (operation_number Operation.Subpiece))) d
      finished_laid x y (subpiece v o k i u n f g) (end.copied op q d c h p) =
          let r = output-small o x.output c.output p.size g u h.output p.sized in
          let j = one_input c.number p.size v x.inputs c.inputs y.inputs r.0 f i h.inputs p.inputs in
          record {
            shaped = copy_shaped y p.kind p.number j.1 (ap is_some p.output ∙ r.1);
            inputs = j.0;
            output = ap (option_fits (value_fits t sub)) p.output ∙ r.2;
            base = op-base Operation.Copy y.kind y.inputs p.kind;
          }

      pub finished-fits : (xs ys : List SemanticAction) → Each (Rough t sub) xs → FinishedAll sec w xs ys
          → all (layout_fits t sub) ys ≡ true
      unfolding all
      finished-fits xs ys r ended = refl
      finished-fits xs ys r (next {x = x} {y = y} {xs = xr} {ys = yr} f z) =
          all_cons (layout_fits t sub) y yr (laid_fits t sub y (finished_laid x y r.0 f)) (finished-fits xr yr r.1 z)
