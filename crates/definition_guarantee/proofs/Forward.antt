-- The forward pass under the premise: every action that it leaves obeys its rule, of final sizes.
use Prim.Native.Nat.{ℕ, zero, suc}
use mathlib.Core.Path.{◌≡◌, refl, sym, ◌∙◌, ap, subst}
use mathlib.Core.Logic.{◌⊎◌, inl, inr}
use mathlib.Core.Bool.{Bool, true, false, ◌&&◌, not}
use mathlib.Core.List.{List, [], ◌∷◌, ◌++◌}
use mathlib.Core.Option.{Option, none, some}
use lib.Dec.{eqb}
use lib.ListN.{get_elem?}
use Rattle.prelude.specs.Base.{when◌then◌else◌, is_some, any, filter}
use Rattle.definition.specs.Operations.{Operation}
use Rattle.definition.specs.Value.{Kind, kind_number, Value, is_kind, ActionKind, SemanticAction, operation_of, Temporary, operands}
use Rattle.definition.specs.Ast.{Section}
use Rattle.definition.specs.Sizes.{Operand, in0, in1, out, Step, steps_of, at, Sizing, apply_steps, update_operand_sizes, backward_pass, forward_pass}
use Rattle.definition.specs.Premise.{temporaries_among, under_rule, ruled, is_sized_in, union, sized_late}
use Rattle.definition_guarantee.specs.Tests.{Each}
use Rattle.definition_guarantee.proofs.Tests.{clash, never, In, in_left, in_right, none_some}
use Rattle.definition_guarantee.proofs.Growth.{tmp_size, Grown, grown_refl, grown_trans}
use Rattle.definition_guarantee.proofs.Rules.{Core, core_of, is_tmp, AllObeyed, RuleHolds, nothing_holds, rule_holds, steps_grown, steps_alike}

union_empty : (ms ns : List ℕ) → union ms ns ≡ [] → (ms ≡ []) × (ns ≡ [])
unfolding union any
union_empty [] ns e = (refl, e)
union_empty (m ∷ ms) ns e = absurd (go (union ms ns) (any (eqb m) (union ms ns)) refl e)
  where
    go : (rest : List ℕ) (b : Bool) → any (eqb m) rest ≡ b → (when b then rest else m ∷ rest) ≡ [] → ⊥
    go [] true d e = never d
    go (x ∷ xs) true d e = cc
    go rest false d e = cc

pub filter_none : (p : ℕ → Bool) (xs : List ℕ) (n : ℕ) → filter p xs ≡ [] → In n xs → p n ≡ false
unfolding filter
filter_none p [] n e i = absurd i
filter_none p (x ∷ xs) n e i = go (p x) refl i e (filter_none p xs n)
  where
    go : (b : Bool) → p x ≡ b → (n ≡ x) ⊎ In n xs → (when b then x ∷ filter p xs else filter p xs) ≡ []
        → (filter p xs ≡ [] → In n xs → p n ≡ false) → p n ≡ false
    go true d i e r = cc
    go false d (inl k) e r = ap p k ∙ d
    go false d (inr k) e r = r e k

not_sized : (x y : Option ℕ) → x ≡ none → (not (is_some x) && is_some y) ≡ false → y ≡ none
unfolding is_some
not_sized (some n) y e h = none_some e refl
not_sized none (some m) e h = clash refl h
not_sized none none e h = refl

module _ (sec : Section) where
  pub forward_grown : (xs : List SemanticAction) (s : Sizing) → Grown s.temporaries (forward_pass sec xs s).1.temporaries
  unfolding forward_pass update_operand_sizes
  forward_grown [] s = grown_refl
  forward_grown (a ∷ xs) s = grown_trans (steps_grown sec true (steps_of (operation_of a.kind)) a s)
      (forward_grown xs (update_operand_sizes sec true a s).1)

  pub backward_grown : (xs : List SemanticAction) (s : Sizing) → Grown s.temporaries (backward_pass sec xs s).1.temporaries
  unfolding backward_pass update_operand_sizes
  backward_grown [] s = grown_refl
  backward_grown (a ∷ xs) s = grown_trans (backward_grown xs s)
      (steps_grown sec false (steps_of (operation_of a.kind)) a (backward_pass sec xs s).1)

  -- with no temporary sized too late, who is ruled and unsized stays so to the end
  late_quiet : (before : List ℕ) (xs : List SemanticAction) (s : Sizing) (n : ℕ) → sized_late sec before xs s ≡ [] → In n before
      → tmp_size s.temporaries n ≡ none
      → tmp_size (forward_pass sec xs s).1.temporaries n ≡ none
  unfolding sized_late forward_pass is_sized_in
  late_quiet before [] s n e i h = h
  late_quiet before (a ∷ xs) s n e i h =
      let t : Sizing = (update_operand_sizes sec true a s).1 in
      let k = union_empty (filter (λ i. not (is_sized_in s i) && is_sized_in t i) before) _ e in
      late_quiet (ruled a ++ before) xs t n k.1 (in_right n (ruled a) before i)
      (not_sized (tmp_size s.temporaries n) (tmp_size t.temporaries n) h
      (filter_none (λ i. not (is_sized_in s i) && is_sized_in t i) before n k.0 i))

  -- an operand's temporary is among the ruled ones

  among_first : (v : Value) (vs : List Value) → is_tmp sec v ≡ true → In v.number (temporaries_among (v ∷ vs))
  unfolding temporaries_among is_kind
  among_first v vs e = rw e (inl refl)

  among_next : (v : Value) (vs : List Value) (n : ℕ) → In n (temporaries_among vs) → In n (temporaries_among (v ∷ vs))
  unfolding temporaries_among is_kind
  among_next v vs n i = go (is_tmp sec v)
    where
      go : (b : Bool) → In n (when b then v.number ∷ temporaries_among vs else temporaries_among vs)
      go true = inr i
      go false = i

  among_at : (vs : List Value) (i : ℕ) (v : Value) → get_elem? vs i ≡ some v → is_tmp sec v ≡ true → In v.number (temporaries_among vs)
  among_at [] i v e t = none_some {x = none} refl e
  among_at (u ∷ vs) zero v e t = let d : u ≡ v = cc in
      subst (λ (x : Value). In x.number (temporaries_among (u ∷ vs))) d
      (among_first u vs (subst (λ (x : Value). is_tmp sec x ≡ true) (sym d) t))
  among_at (u ∷ vs) (suc i) v e t = among_next u vs v.number (among_at vs i v e t)

  behind_output : (o : Option Value) (vs : List Value) (n : ℕ) → In n (temporaries_among vs) → In n (temporaries_among (operands o vs))
  unfolding operands
  behind_output none vs n i = i
  behind_output (some v) vs n i = among_next v vs n i

  operand-among : (a : SemanticAction) (p : Operand) (v : Value) → at p a ≡ some v → is_tmp sec v ≡ true
      → In v.number (temporaries_among (operands a.output a.inputs))
  unfolding at operands
  operand-among a in0 v e t = behind_output a.output a.inputs v.number (among_at a.inputs 0 v e t)
  operand-among a in1 v e t = behind_output a.output a.inputs v.number (among_at a.inputs 1 v e t)
  operand-among a out v e t = rw e (among_first v a.inputs t)

  core_back : (x : Option Value) (v : Value) → core_of (some v) ≡ core_of x
      → (u : Value) × (x ≡ some u) × (u.kind ≡ v.kind) × (u.number ≡ v.number)
  unfolding core_of
  core_back none v e = none_some {x = none} refl (sym e)
  core_back (some u) v e = let d : ◌≡◌ {A = Core} (record { kind = v.kind; number = v.number; offset = v.offset })
      (record { kind = u.kind; number = u.number; offset = u.offset }) = cc in
      (u, refl, ap (λ (c : Core). c.kind) (sym d), ap (λ (c : Core). c.number) (sym d))

  -- one action
  action_obeys : (xs : List Step) → RuleHolds sec xs → (a : SemanticAction) (s : Sizing) (w : List Temporary)
      → Grown (apply_steps sec true xs a s).1.temporaries w
      → ((n : ℕ) → In n (under_rule xs a) → tmp_size (apply_steps sec true xs a s).1.temporaries n ≡ none → tmp_size w n ≡ none)
      → AllObeyed sec w (apply_steps sec true xs a s).0 xs
  unfolding under_rule
  action_obeys [] r a s w g h = tt
  action_obeys (x ∷ xs) r a s w g h = r.holds a s w g (record { quiet = quiet })
    where
      b : SemanticAction
      b = (apply_steps sec true (x ∷ xs) a s).0

      ts : List Temporary
      ts = (apply_steps sec true (x ∷ xs) a s).1.temporaries

      quiet : (p : Operand) (v : Value) → at p b ≡ some v → is_tmp sec v ≡ true → tmp_size ts v.number ≡ none
          → tmp_size w v.number ≡ none
      quiet p v e t =
          let c = core_back (at p a) v (ap core_of (sym e) ∙ (steps_alike sec true (x ∷ xs) a s).operand p) in
          h v.number (subst (λ (n : ℕ). In n (temporaries_among (operands a.output a.inputs))) c.3
          (operand-among a p c.0 c.1 (ap (λ (k : Kind). eqb (kind_number Kind.PcodeTmp) (kind_number k)) c.2 ∙ t)))

  steps_hold : (o : Option Operation) → RuleHolds sec (steps_of o)
  unfolding steps_of
  steps_hold none = nothing_holds sec
  steps_hold (some op) = rule_holds sec op

  abbrev pub Obeys : List Temporary → SemanticAction → Type 0
  Obeys w b = AllObeyed sec w b (steps_of (operation_of b.kind))

  pub forward_obeys : (before : List ℕ) (xs : List SemanticAction) (s : Sizing) → sized_late sec before xs s ≡ []
      → Each (Obeys (forward_pass sec xs s).1.temporaries) (forward_pass sec xs s).0
  unfolding sized_late forward_pass update_operand_sizes ruled
  forward_obeys before [] s e = tt
  forward_obeys before (a ∷ xs) s e =
      let t : Sizing = (update_operand_sizes sec true a s).1 in
      let b : SemanticAction = (update_operand_sizes sec true a s).0 in
      let w : List Temporary = (forward_pass sec xs t).1.temporaries in
      let late : sized_late sec (ruled a ++ before) xs t ≡ [] =
      (union_empty (filter (λ i. not (is_sized_in s i) && is_sized_in t i) before) _ e).1 in
      let steps : List Step = steps_of (operation_of a.kind) in
      let k : b.kind ≡ a.kind = (steps_alike sec true steps a s).kind in (
        subst (λ (x : ActionKind). AllObeyed sec w b (steps_of (operation_of x))) (sym k)
            (action_obeys steps (steps_hold (operation_of a.kind)) a s w (forward_grown xs t)
            (λ n i. late_quiet (ruled a ++ before) xs t n late (in_left n (ruled a) before i))),
        forward_obeys (ruled a ++ before) xs t late,
      )
