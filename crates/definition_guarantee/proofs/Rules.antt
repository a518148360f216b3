-- One action under its rule: whatever came before, its operands' final sizes obey the rule, if no temporary among them is
-- sized later.
use Prim.Native.Nat.{ℕ, zero, suc}
use mathlib.Core.Path.{◌≡◌, refl, sym, ◌∙◌, ap, subst}
use mathlib.Core.Logic.{◌⊎◌, inl, inr}
use mathlib.Core.Bool.{Bool, true, false}
use mathlib.Core.List.{List, [], ◌∷◌}
use mathlib.Core.Option.{Option, none, some}
use lib.Dec.{eqb}
use lib.ListN.{length, get_elem?, set, length-set}
use Rattle.prelude.specs.Base.{when◌then◌else◌, ◌or◌, or_else, and_then, is_some, all, first, contains}
use Rattle.definition.specs.Operations.{Operation, among}
use Rattle.definition.specs.Value.{Kind, kind_number, Value, truncate, SemanticAction, Temporary}
use Rattle.definition.specs.Ast.{Section}
use Rattle.definition.specs.Sizes.{Operand, in0, in1, out, FixedSize, one, pointer, Step, equal, exactly, by_default, Rule, rules, rule_of, at, put, Sizing, size_of_local, size_of, fallback_size, set_size, set_given, set_operand, set_operands, known_at, share_size, set_size_of_all, fixed_size, set_unsized, apply_step, apply_steps, but_first, pointer_size}
use Rattle.definition.proofs.Openers.{base_opens}
use Rattle.std.proofs.lemmas.Bool.{eqb-true}
use Rattle.definition_guarantee.proofs.Tests.{never, all_at, first_from, chosen, first_none, none_some, some_same}
use Rattle.definition_guarantee.proofs.Growth.{tmp_size, Grown, grown_refl, grown_trans, Touched, touched_refl, local_same, local-tmp, known_stays, size_none, own_size, settled_touched}

-- operands of an action

unfoldable pub apart : Operand → Operand → Bool
apart in0 in0 = false
apart in0 in1 = true
apart in0 out = true
apart in1 in0 = true
apart in1 in1 = false
apart in1 out = true
apart out in0 = true
apart out in1 = true
apart out out = false

pub together : (p q : Operand) → apart p q ≡ false → p ≡ q
unfolding apart
together in0 in0 e = refl
together in0 in1 e = never (sym e)
together in0 out e = never (sym e)
together in1 in0 e = never (sym e)
together in1 in1 e = refl
together in1 out e = never (sym e)
together out in0 e = never (sym e)
together out in1 e = never (sym e)
together out out e = refl

get-same : {A : Type 0} (xs : List A) (i : ℕ) (v w : A) → get_elem? xs i ≡ some w → get_elem? (set xs i v) i ≡ some v
get-same [] i v w e = none_some {x = none} refl e
get-same (x ∷ xs) zero v w e = refl
get-same (x ∷ xs) (suc i) v w e = get-same xs i v w e

second_kept : {A : Type 0} (xs : List A) (v : A) → get_elem? (set xs 0 v) 1 ≡ get_elem? xs 1
second_kept [] v = refl
second_kept (x ∷ xs) v = refl

first_kept : {A : Type 0} (xs : List A) (v : A) → get_elem? (set xs 1 v) 0 ≡ get_elem? xs 0
first_kept [] v = refl
first_kept (x ∷ xs) v = refl

pub at_same : (p : Operand) (v w : Value) (a : SemanticAction) → at p a ≡ some w → at p (put p v a) ≡ some v
unfolding at put
at_same in0 v w a e = get-same a.inputs 0 v w e
at_same in1 v w a e = get-same a.inputs 1 v w e
at_same out v w a e = refl

pub at_other : (p q : Operand) (v : Value) (a : SemanticAction) → apart p q ≡ true → at q (put p v a) ≡ at q a
unfolding at put apart
at_other in0 in0 v a e = never e
at_other in0 in1 v a e = second_kept a.inputs v
at_other in0 out v a e = refl
at_other in1 in0 v a e = first_kept a.inputs v
at_other in1 in1 v a e = never e
at_other in1 out v a e = refl
at_other out in0 v a e = refl
at_other out in1 v a e = refl
at_other out out v a e = never e

pub is_size : (n : ℕ) (x : Option ℕ) → contains n x ≡ true → x ≡ some n
unfolding contains
is_size n (some m) e = ap some (sym (eqb-true n m e))
is_size n none e = never e

-- what sizes leave alone

pub record Core : Type 0 where
  pub kind : Kind
  pub number : ℕ
  pub offset : ℕ

unfoldable pub core_of : Option Value → Option Core
core_of none = none
core_of (some v) = some (record { kind = v.kind; number = v.number; offset = v.offset })

same_core : (n : ℕ) (w : Value) → core_of (some (truncate n w)) ≡ core_of (some w)
unfolding core_of
same_core n w = refl

pub record Alike (a b : SemanticAction) : Type 0 where
  pub kind : b.kind ≡ a.kind
  pub number : b.number ≡ a.number
  pub inputs : length b.inputs ≡ length a.inputs
  pub output : is_some b.output ≡ is_some a.output
  pub operand : (p : Operand) → core_of (at p b) ≡ core_of (at p a)

pub alike_refl : {a : SemanticAction} → Alike a a
alike_refl = record { kind = refl; number = refl; inputs = refl; output = refl; operand = λ p. refl }

pub alike_trans : {a b c : SemanticAction} → Alike a b → Alike b c → Alike a c
alike_trans p q = record {
  kind = q.kind ∙ p.kind;
  number = q.number ∙ p.number;
  inputs = q.inputs ∙ p.inputs;
  output = q.output ∙ p.output;
  operand = λ x. q.operand x ∙ p.operand x;
}

put_kind : (p : Operand) (v : Value) (a : SemanticAction) → (put p v a).kind ≡ a.kind
unfolding put
put_kind in0 v a = refl
put_kind in1 v a = refl
put_kind out v a = refl

put_number : (p : Operand) (v : Value) (a : SemanticAction) → (put p v a).number ≡ a.number
unfolding put
put_number in0 v a = refl
put_number in1 v a = refl
put_number out v a = refl

put-inputs : (p : Operand) (v : Value) (a : SemanticAction) → length (put p v a).inputs ≡ length a.inputs
unfolding put
put-inputs in0 v a = length-set a.inputs 0 v
put-inputs in1 v a = length-set a.inputs 1 v
put-inputs out v a = refl

put-output : (p : Operand) (v w : Value) (a : SemanticAction) → at p a ≡ some w → is_some (put p v a).output ≡ is_some a.output
unfolding put at is_some
put-output in0 v w a e = refl
put-output in1 v w a e = refl
put-output out v w a e = rw e

module _ (sec : Section) where
  -- one operand is set

  -- operand p, where there is one, has the known size n
  pub record KnownAs (n : ℕ) (p : Operand) (a : SemanticAction) (s : Sizing) : Type 0 where
    pub known : (v : Value) → at p a ≡ some v → size_of sec s.temporaries v ≡ some n

  -- what setting an operand does
  pub record Sets (n : ℕ) (p : Operand) (a : SemanticAction) (s : Sizing) (b : SemanticAction) (t : Sizing) : Type 0 where
    pub touched : Touched n s.temporaries t.temporaries
    pub alike : Alike a b
    pub own : (v : Value) → at p b ≡ some v → v.size ≡ some n
    pub others : (q : Operand) → apart p q ≡ true → at q b ≡ at q a

  given : (n : ℕ) (p : Operand) (a : SemanticAction) (s : Sizing) (x : Option Value) → at p a ≡ x
      → Sets n p a s (set_given sec n p x a s).0 (set_given sec n p x a s).1
  unfolding set_given set_size
  given n p a s none e = record {
    touched = touched_refl;
    alike = alike_refl;
    own = λ v d. none_some e d;
    others = λ q d. refl;
  }
  given n p a s (some w) e = record {
    touched = settled_touched sec w n s (size_of sec s.temporaries w) refl;
    alike = record {
      kind = put_kind p _ a;
      number = put_number p _ a;
      inputs = put-inputs p _ a;
      output = put-output p _ w a e;
      operand = λ q. core q (apart p q) refl;
    };
    own = λ v d. ap (λ (x : Value). x.size) (some_same (sym d ∙ at_same p (truncate n w) w a e));
    others = λ q d. at_other p q (truncate n w) a d;
  }
    where
      core : (q : Operand) (b : Bool) → apart p q ≡ b → core_of (at q (put p (truncate n w) a)) ≡ core_of (at q a)
      core q true d = ap core_of (at_other p q (truncate n w) a d)
      core q false d = let k : p ≡ q = together p q d in
          rw (← k) (ap core_of (at_same p (truncate n w) w a e) ∙ same_core n w ∙ sym (ap core_of e))

  pub sets : (n : ℕ) (p : Operand) (a : SemanticAction) (s : Sizing)
      → Sets n p a s (set_operand sec n p a s).0 (set_operand sec n p a s).1
  unfolding set_operand
  sets n p a s = given n p a s (at p a) refl

  -- the operand set has the size, and who has it keeps it
  set_known : (n : ℕ) (p : Operand) (a : SemanticAction) (s : Sizing)
      → KnownAs n p (set_operand sec n p a s).0 (set_operand sec n p a s).1
  set_known n p a s = record { known = λ v e. own_size sec _ v n ((sets n p a s).own v e) }

  keeps_known : (n : ℕ) (p q : Operand) (a : SemanticAction) (s : Sizing) → KnownAs n q a s
      → KnownAs n q (set_operand sec n p a s).0 (set_operand sec n p a s).1
  keeps_known n p q a s k = go (apart p q) refl
    where
      b : SemanticAction
      b = (set_operand sec n p a s).0

      t : Sizing
      t = (set_operand sec n p a s).1

      go : (x : Bool) → apart p q ≡ x → KnownAs n q b t
      go true d = record {
        known = λ v e. known_stays sec s.temporaries t.temporaries v n (sets n p a s).touched.grown
            (k.known v (sym ((sets n p a s).others q d) ∙ e));
      }
      go false d = subst (λ (r : Operand). KnownAs n r b t) (together p q d) (set_known n p a s)

  -- several operands are set to one size

  abbrev after : ℕ → List Operand → SemanticAction → Sizing → SemanticAction
  after n ps a s = (set_operands sec n ps a s).0

  abbrev afterwards : ℕ → List Operand → SemanticAction → Sizing → Sizing
  afterwards n ps a s = (set_operands sec n ps a s).1

  all_touched : (n : ℕ) (ps : List Operand) (a : SemanticAction) (s : Sizing) → Grown s.temporaries (afterwards n ps a s).temporaries
  unfolding set_operands
  all_touched n [] a s = grown_refl
  all_touched n (p ∷ ps) a s = grown_trans (sets n p a s).touched.grown
      (all_touched n ps (set_operand sec n p a s).0 (set_operand sec n p a s).1)

  all_alike : (n : ℕ) (ps : List Operand) (a : SemanticAction) (s : Sizing) → Alike a (after n ps a s)
  unfolding set_operands
  all_alike n [] a s = alike_refl
  all_alike n (p ∷ ps) a s = alike_trans (sets n p a s).alike
      (all_alike n ps (set_operand sec n p a s).0 (set_operand sec n p a s).1)

  all_keep : (n : ℕ) (ps : List Operand) (q : Operand) (a : SemanticAction) (s : Sizing) → KnownAs n q a s
      → KnownAs n q (after n ps a s) (afterwards n ps a s)
  unfolding set_operands
  all_keep n [] q a s k = k
  all_keep n (p ∷ ps) q a s k = all_keep n ps q (set_operand sec n p a s).0 (set_operand sec n p a s).1 (keeps_known n p q a s k)

  all_known : (n : ℕ) (ps : List Operand) (i : ℕ) (q : Operand) (a : SemanticAction) (s : Sizing) → get_elem? ps i ≡ some q
      → KnownAs n q (after n ps a s) (afterwards n ps a s)
  unfolding set_operands
  all_known n [] i q a s e = none_some {x = none} refl e
  all_known n (p ∷ ps) zero q a s e =
      all_keep n ps q (set_operand sec n p a s).0 (set_operand sec n p a s).1
      (subst (λ (r : Operand). KnownAs n r (set_operand sec n p a s).0 (set_operand sec n p a s).1) (some_same e)
      (set_known n p a s))
  all_known n (p ∷ ps) (suc i) q a s e = all_known n ps i q (set_operand sec n p a s).0 (set_operand sec n p a s).1 e

  -- a group shares a size

  known_from : (n : ℕ) (p : Operand) (a : SemanticAction) (s : Sizing) → known_at sec a s p ≡ some n → KnownAs n p a s
  unfolding and_then
  known_from n p a s e = record { known = λ v d. go v d e }
    where
      go : (v : Value) → at p a ≡ some v → and_then (at p a) (size_of sec s.temporaries) ≡ some n
          → size_of sec s.temporaries v ≡ some n
      go v d e = rw d at e

  -- an operand of a group with a known size is set, or is the first known one
  covered : (n : ℕ) (ps : List Operand) (i : ℕ) (q : Operand) (a : SemanticAction) (s : Sizing) → first (known_at sec a s) ps ≡ some n
      → get_elem? ps i ≡ some q
      → ((j : ℕ) × (get_elem? (but_first (λ p. is_some (known_at sec a s p)) ps) j ≡ some q)) ⊎ KnownAs n q a s
  unfolding first but_first base_opens
  covered n [] i q a s e d = none_some {x = none} refl d
  covered n (p ∷ ps) i q a s e d = go (known_at sec a s p) refl i d e (λ j c f. covered n ps j q a s f c)
    where
      Covered : List Operand → Type 0
      Covered qs = ((j : ℕ) × (get_elem? qs j ≡ some q)) ⊎ KnownAs n q a s

      onward : Covered (but_first (λ p. is_some (known_at sec a s p)) ps) → Covered (p ∷ but_first (λ p. is_some (known_at sec a s p)) ps)
      onward (inl c) = inl (suc c.0, c.1)
      onward (inr c) = inr c

      go : (x : Option ℕ) → known_at sec a s p ≡ x → (i : ℕ) → get_elem? (p ∷ ps) i ≡ some q → x or first (known_at sec a s) ps ≡ some n
          → ((j : ℕ) → get_elem? ps j ≡ some q → first (known_at sec a s) ps ≡ some n
          → Covered (but_first (λ p. is_some (known_at sec a s p)) ps))
          → Covered (when is_some x then ps else p ∷ but_first (λ p. is_some (known_at sec a s p)) ps)
      go (some m) k zero d e r = inr (subst (λ (x : Operand). KnownAs n x a s) (some_same d) (known_from n p a s (k ∙ e)))
      go (some m) k (suc i) d e r = inl (i, d)
      go none k zero d e r = inl (0, d)
      go none k (suc i) d e r = onward (r i d e)

  -- the operands of a group after it is sized: all have one size, or nothing is changed and none has a size or a fallback
  pub data Shared (ps : List Operand) (a : SemanticAction) (s : Sizing) (b : SemanticAction) (t : Sizing) : Type 0 where
    sharing : (n : ℕ) → ((i : ℕ) (q : Operand) → get_elem? ps i ≡ some q → KnownAs n q b t) → Shared ps a s b t
    nothing : b ≡ a → t ≡ s → ((i : ℕ) (q : Operand) (v : Value) → get_elem? ps i ≡ some q → at q a ≡ some v
        → (size_of sec s.temporaries v ≡ none) × (fallback_size sec v ≡ none)) → Shared ps a s b t

  share : (ps : List Operand) (a : SemanticAction) (s : Sizing) (x y : Option ℕ) → first (known_at sec a s) ps ≡ x
      → first (λ p. and_then (at p a) (fallback_size sec)) ps ≡ y
      → Shared ps a s (share_size sec x y ps a s).0 (share_size sec x y ps a s).1
  unfolding share_size and_then
  share ps a s (some n) y e d = go (all (λ p. contains n (known_at sec a s p)) ps) refl
    where
      qs : List Operand
      qs = but_first (λ p. is_some (known_at sec a s p)) ps

      pick : (q : Operand) → ((j : ℕ) × (get_elem? qs j ≡ some q)) ⊎ KnownAs n q a s
          → KnownAs n q (set_operands sec n qs a s).0 (set_operands sec n qs a s).1
      pick q (inl c) = all_known n qs c.0 q a s c.1
      pick q (inr c) = all_keep n qs q a s c

      go : (b : Bool) → all (λ p. contains n (known_at sec a s p)) ps ≡ b
          → Shared ps a s (when b then (a, s) else set_operands sec n qs a s).0 (when b then (a, s) else set_operands sec n qs a s).1
      go true h = sharing n (λ i q c. known_from n q a s (is_size n _ (all_at (λ p. contains n (known_at sec a s p)) ps i q h c)))
      go false h = sharing n (λ i q c. pick q (covered n ps i q a s e c))
  share ps a s none (some n) e d = sharing n (λ i q c. all_known n ps i q a s c)
  share ps a s none none e d = nothing refl refl (λ i q v c k.
      let known : and_then (at q a) (size_of sec s.temporaries) ≡ none = first_none _ ps i q e c in
      let fall : and_then (at q a) (fallback_size sec) ≡ none = first_none _ ps i q d c in
      (rw k at known, rw k at fall))

  share_grown : (x y : Option ℕ) (ps : List Operand) (a : SemanticAction) (s : Sizing)
      → Grown s.temporaries (share_size sec x y ps a s).1.temporaries
  unfolding share_size
  share_grown (some n) y ps a s = go (all (λ p. contains n (known_at sec a s p)) ps)
    where
      go : (b : Bool) → Grown s.temporaries (when b then (a, s) else set_operands sec n (but_first (λ p. is_some (known_at sec a s p)) ps)
          a s).1.temporaries
      go true = grown_refl
      go false = all_touched n _ a s
  share_grown none (some n) ps a s = all_touched n ps a s
  share_grown none none ps a s = grown_refl

  share_alike : (x y : Option ℕ) (ps : List Operand) (a : SemanticAction) (s : Sizing) → Alike a (share_size sec x y ps a s).0
  unfolding share_size
  share_alike (some n) y ps a s = go (all (λ p. contains n (known_at sec a s p)) ps)
    where
      go : (b : Bool) → Alike a (when b then (a, s) else set_operands sec n (but_first (λ p. is_some (known_at sec a s p)) ps) a s).0
      go true = alike_refl
      go false = all_alike n _ a s
  share_alike none (some n) ps a s = all_alike n ps a s
  share_alike none none ps a s = alike_refl

  -- steps

  unsized_grown : (x : Option ℕ) (n : ℕ) (p : Operand) (a : SemanticAction) (s : Sizing)
      → Touched n s.temporaries (set_unsized sec x n p a s).1.temporaries
  unfolding set_unsized
  unsized_grown (some m) n p a s = touched_refl
  unsized_grown none n p a s = (sets n p a s).touched

  unsized_alike : (x : Option ℕ) (n : ℕ) (p : Operand) (a : SemanticAction) (s : Sizing) → Alike a (set_unsized sec x n p a s).0
  unfolding set_unsized
  unsized_alike (some m) n p a s = alike_refl
  unsized_alike none n p a s = (sets n p a s).alike

  unsized_others : (x : Option ℕ) (n : ℕ) (p q : Operand) (a : SemanticAction) (s : Sizing) → apart p q ≡ true
      → at q (set_unsized sec x n p a s).0 ≡ at q a
  unfolding set_unsized
  unsized_others (some m) n p q a s d = refl
  unsized_others none n p q a s d = (sets n p a s).others q d

  step_grown : (late : Bool) (x : Step) (a : SemanticAction) (s : Sizing)
      → Grown s.temporaries (apply_step sec late x a s).1.temporaries
  unfolding apply_step set_size_of_all
  step_grown late (equal ps) a s = share_grown _ _ ps a s
  step_grown late (exactly p z) a s = (sets (fixed_size (pointer_size sec) z) p a s).touched.grown
  step_grown late (by_default p z) a s = (unsized_grown _ (fixed_size (pointer_size sec) z) p a s).grown

  step_alike : (late : Bool) (x : Step) (a : SemanticAction) (s : Sizing) → Alike a (apply_step sec late x a s).0
  unfolding apply_step set_size_of_all
  step_alike late (equal ps) a s = share_alike _ _ ps a s
  step_alike late (exactly p z) a s = (sets (fixed_size (pointer_size sec) z) p a s).alike
  step_alike late (by_default p z) a s = unsized_alike _ (fixed_size (pointer_size sec) z) p a s

  pub steps_grown : (late : Bool) (xs : List Step) (a : SemanticAction) (s : Sizing)
      → Grown s.temporaries (apply_steps sec late xs a s).1.temporaries
  unfolding apply_steps
  steps_grown late [] a s = grown_refl
  steps_grown late (x ∷ xs) a s = grown_trans (step_grown late x a s)
      (steps_grown late xs (apply_step sec late x a s).0 (apply_step sec late x a s).1)

  pub steps_alike : (late : Bool) (xs : List Step) (a : SemanticAction) (s : Sizing) → Alike a (apply_steps sec late xs a s).0
  unfolding apply_steps
  steps_alike late [] a s = alike_refl
  steps_alike late (x ∷ xs) a s = alike_trans (step_alike late x a s)
      (steps_alike late xs (apply_step sec late x a s).0 (apply_step sec late x a s).1)

  -- the final size, once the temporaries are w
  abbrev pub final_size : List Temporary → Value → Option ℕ
  final_size w v = size_of sec w v or fallback_size sec v

  abbrev pub is_tmp : Value → Bool
  is_tmp v = eqb (kind_number Kind.PcodeTmp) (kind_number v.kind)

  -- an operand's temporary, if unsized after its action, is unsized at the end
  pub record Quiet (b : SemanticAction) (ts w : List Temporary) : Type 0 where
    pub quiet : (p : Operand) (v : Value) → at p b ≡ some v → is_tmp v ≡ true → tmp_size ts v.number ≡ none
        → tmp_size w v.number ≡ none

  -- a step of a rule, of final sizes
  abbrev pub Obeyed : List Temporary → SemanticAction → Step → Type 0
  Obeyed w b (equal ps) =
      (i j : ℕ) (p q : Operand) (v u : Value) (m n : ℕ) → get_elem? ps i ≡ some p → get_elem? ps j ≡ some q → at p b ≡ some v
      → at q b ≡ some u
      → final_size w v ≡ some m → final_size w u ≡ some n → m ≡ n
  Obeyed w b (exactly p z) = (v : Value) → at p b ≡ some v → v.size ≡ some (fixed_size (pointer_size sec) z)
  Obeyed w b (by_default p z) = Unit {0}

  abbrev pub AllObeyed : List Temporary → SemanticAction → List Step → Type 0
  AllObeyed w b [] = Unit {0}
  AllObeyed w b (x ∷ xs) = Obeyed w b x × AllObeyed w b xs

  pub record RuleHolds (xs : List Step) : Type 0 where
    pub holds : (a : SemanticAction) (s : Sizing) (w : List Temporary) → Grown (apply_steps sec true xs a s).1.temporaries w
        → Quiet (apply_steps sec true xs a s).0 (apply_steps sec true xs a s).1.temporaries w
        → AllObeyed w (apply_steps sec true xs a s).0 xs

  known_final : (w : List Temporary) (v : Value) (m n : ℕ) → size_of sec w v ≡ some n → final_size w v ≡ some m → m ≡ n
  unfolding ◌or◌
  known_final w v m n k e = let d : some n ≡ some m = rw k at e in sym (some_same d)

  -- An operand with no size and no fallback: at the end it has the one size z that its own action brought in.
  stray : (ts us w : List Temporary) (v : Value) (z m : ℕ) → size_of sec ts v ≡ none → fallback_size sec v ≡ none → Touched z ts us
      → Grown us w
      → (is_tmp v ≡ true → tmp_size us v.number ≡ none → tmp_size w v.number ≡ none) → final_size w v ≡ some m → m ≡ z
  unfolding ◌or◌ size_of
  stray ts us w v z m k f t g quiet e = go (is_tmp v) refl
    where
      own : v.size ≡ none
      own = (size_none sec ts v k).0

      locals : size_of_local sec ts v.kind v.number ≡ none
      locals = (size_none sec ts v k).1

      ends : (x : Option ℕ) → x or none ≡ some m → x ≡ some m
      ends (some y) h = h
      ends none h = none_some {x = none} refl h

      reached : size_of_local sec w v.kind v.number ≡ some m
      reached = ends (size_of_local sec w v.kind v.number) (rw (f, own) at e)

      go : (b : Bool) → is_tmp v ≡ b → m ≡ z
      go false d = none_some (local_same sec ts w v.kind v.number d ∙ locals) reached
      go true d = pick (t.only v.number) (tmp_size us v.number) refl
        where
          there : tmp_size w v.number ≡ some m
          there = sym (local-tmp sec w v.kind v.number d) ∙ reached

          before : tmp_size ts v.number ≡ none
          before = sym (local-tmp sec ts v.kind v.number d) ∙ locals

          pick : (tmp_size us v.number ≡ tmp_size ts v.number) ⊎ (tmp_size us v.number ≡ some z) → (x : Option ℕ)
              → tmp_size us v.number ≡ x → m ≡ z
          pick (inl c) x q = none_some (quiet d (c ∙ before)) there
          pick (inr c) x q = some_same (sym there ∙ g.stays v.number z c)

  pub nothing_holds : RuleHolds []
  nothing_holds = record { holds = λ a s w g q. tt }

  equal-holds : (ps : List Operand) (xs : List Step) (z : ℕ)
      → ((a : SemanticAction) (s : Sizing) → Touched z s.temporaries (apply_steps sec true xs a s).1.temporaries)
      → ((i : ℕ) (q : Operand) → get_elem? ps i ≡ some q → (a : SemanticAction) (s : Sizing)
      → at q (apply_steps sec true xs a s).0 ≡ at q a)
      → RuleHolds xs → RuleHolds (equal ps ∷ xs)
  unfolding apply_steps apply_step set_size_of_all
  equal-holds ps xs z touch frame rest = record {
    holds = λ a s w g q. (go a s w g q (share ps a s _ _ refl refl), rest.holds _ _ w g q);
  }
    where
      go : (a : SemanticAction) (s : Sizing) (w : List Temporary)
          → let a₁ : SemanticAction = (apply_step sec true (equal ps) a s).0 in let s₁ : Sizing =
          (apply_step sec true (equal ps) a s).1 in
          Grown (apply_steps sec true xs a₁ s₁).1.temporaries w
          → Quiet (apply_steps sec true xs a₁ s₁).0 (apply_steps sec true xs a₁ s₁).1.temporaries w
          → Shared ps a s a₁ s₁ → Obeyed w (apply_steps sec true xs a₁ s₁).0 (equal ps)
      go a s w g q (sharing n h) i j p r v u m k ip jr vp ur vm uk =
          same_n p v m i ip vp vm ∙ sym (same_n r u k j jr ur uk)
        where
          a₁ : SemanticAction
          a₁ = (apply_step sec true (equal ps) a s).0

          s₁ : Sizing
          s₁ = (apply_step sec true (equal ps) a s).1

          same_n : (p : Operand) (v : Value) (m i : ℕ) → get_elem? ps i ≡ some p → at p (apply_steps sec true xs a₁ s₁).0 ≡ some v
              → final_size w v ≡ some m → m ≡ n
          same_n p v m i ip vp vm =
              known_final w v m n (known_stays sec _ w v n (grown_trans (touch a₁ s₁).grown g)
              ((h i p ip).known v (sym (frame i p ip a₁ s₁) ∙ vp))) vm
      go a s w g q (nothing eb et h) i j p r v u m k ip jr vp ur vm uk =
          same_z p v m i ip vp vm ∙ sym (same_z r u k j jr ur uk)
        where
          a₁ : SemanticAction
          a₁ = (apply_step sec true (equal ps) a s).0

          s₁ : Sizing
          s₁ = (apply_step sec true (equal ps) a s).1

          same_z : (p : Operand) (v : Value) (m i : ℕ) → get_elem? ps i ≡ some p → at p (apply_steps sec true xs a₁ s₁).0 ≡ some v
              → final_size w v ≡ some m → m ≡ z
          same_z p v m i ip vp vm =
              let c = h i p v ip (ap (at p) (sym eb) ∙ sym (frame i p ip a₁ s₁) ∙ vp) in
              stray s.temporaries (apply_steps sec true xs a₁ s₁).1.temporaries w v z m c.0 c.1
              (subst (λ (x : Sizing). Touched z x.temporaries (apply_steps sec true xs a₁ s₁).1.temporaries) et (touch a₁ s₁)) g
              (q.quiet p v vp) vm

  sized-holds : (p : Operand) (z : FixedSize) (xs : List Step)
      → ((a : SemanticAction) (s : Sizing) → at p (apply_steps sec true xs a s).0 ≡ at p a) → RuleHolds xs → RuleHolds (exactly p z ∷ xs)
  unfolding apply_steps apply_step
  sized-holds p z xs frame rest = record {
    holds = λ a s w g q. ((λ v e. (sets (fixed_size (pointer_size sec) z) p a s).own v (sym (frame _ _) ∙ e)), rest.holds _ _ w g q);
  }

  unsized_holds : (p : Operand) (z : FixedSize) (xs : List Step) → RuleHolds xs → RuleHolds (by_default p z ∷ xs)
  unfolding apply_steps apply_step
  unsized_holds p z xs rest = record { holds = λ a s w g q. (tt, rest.holds _ _ w g q) }

  -- the rules of the table

  sized_frame : (p q : Operand) (z : FixedSize) (xs : List Step) → apart p q ≡ true
      → ((a : SemanticAction) (s : Sizing) → at q (apply_steps sec true xs a s).0 ≡ at q a)
      → (a : SemanticAction) (s : Sizing) → at q (apply_steps sec true (exactly p z ∷ xs) a s).0 ≡ at q a
  unfolding apply_steps apply_step
  sized_frame p q z xs d rest a s = rest _ _ ∙ (sets (fixed_size (pointer_size sec) z) p a s).others q d

  unsized_frame : (p q : Operand) (z : FixedSize) → apart p q ≡ true → (a : SemanticAction) (s : Sizing)
      → at q (apply_steps sec true (by_default p z ∷ []) a s).0 ≡ at q a
  unfolding apply_steps apply_step
  unsized_frame p q z d a s = unsized_others _ (fixed_size (pointer_size sec) z) p q a s d

  empty_frame : (q : Operand) (a : SemanticAction) (s : Sizing) → at q (apply_steps sec true [] a s).0 ≡ at q a
  unfolding apply_steps
  empty_frame q a s = refl

  empty_touch : (z : ℕ) (a : SemanticAction) (s : Sizing) → Touched z s.temporaries (apply_steps sec true [] a s).1.temporaries
  unfolding apply_steps
  empty_touch z a s = touched_refl

  sized_touch : (p : Operand) (z : FixedSize) (a : SemanticAction) (s : Sizing)
      → Touched (fixed_size (pointer_size sec) z) s.temporaries (apply_steps sec true (exactly p z ∷ []) a s).1.temporaries
  unfolding apply_steps apply_step
  sized_touch p z a s = (sets (fixed_size (pointer_size sec) z) p a s).touched

  unsized_touch : (p : Operand) (z : FixedSize) (a : SemanticAction) (s : Sizing)
      → Touched (fixed_size (pointer_size sec) z) s.temporaries (apply_steps sec true (by_default p z ∷ []) a s).1.temporaries
  unfolding apply_steps apply_step
  unsized_touch p z a s = unsized_grown _ (fixed_size (pointer_size sec) z) p a s

  abbrev RulesHold : List Rule → Type 0
  RulesHold [] = Unit {0}
  RulesHold (r ∷ rs) = RuleHolds r.steps × RulesHold rs

  rules_at : (rs : List Rule) (i : ℕ) (r : Rule) → RulesHold rs → get_elem? rs i ≡ some r → RuleHolds r.steps
  rules_at [] i r h e = none_some {x = none} refl e
  rules_at (x ∷ rs) zero r h e = subst (λ (y : Rule). RuleHolds y.steps) (some_same e) h.0
  rules_at (x ∷ rs) (suc i) r h e = rules_at rs i r h.1 e

  one_of : (p q r : Operand) (i : ℕ) → get_elem? (p ∷ q ∷ []) i ≡ some r → apart out p ≡ true → apart out q ≡ true → apart out r ≡ true
  one_of p q r zero e h k = subst (λ (x : Operand). apart out x ≡ true) (some_same e) h
  one_of p q r (suc zero) e h k = subst (λ (x : Operand). apart out x ≡ true) (some_same e) k
  one_of p q r (suc (suc i)) e h k = none_some {x = none} refl e

  not_in1 : (r : Operand) (i : ℕ) → get_elem? (in0 ∷ out ∷ []) i ≡ some r → apart in1 r ≡ true
  unfolding apart
  not_in1 r zero e = subst (λ (x : Operand). apart in1 x ≡ true) (some_same e) refl
  not_in1 r (suc zero) e = subst (λ (x : Operand). apart in1 x ≡ true) (some_same e) refl
  not_in1 r (suc (suc i)) e = none_some {x = none} refl e

  table-holds : RulesHold rules
  unfolding rules apart
  table-holds = (
    equal-holds (in0 ∷ out ∷ []) [] 0 (empty_touch 0) (λ i q e. empty_frame q) nothing_holds,
    (
      equal-holds (in0 ∷ out ∷ []) (by_default in1 pointer ∷ []) _ (unsized_touch in1 pointer)
          (λ i q e. unsized_frame in1 q pointer (not_in1 q i e)) (unsized_holds in1 pointer [] nothing_holds),
      (
        equal-holds (in0 ∷ in1 ∷ out ∷ []) [] 0 (empty_touch 0) (λ i q e. empty_frame q) nothing_holds,
        (
          equal-holds (in0 ∷ in1 ∷ []) (exactly out one ∷ []) _ (sized_touch out one)
              (λ i q e. sized_frame out q one [] (one_of in0 in1 q i e refl refl) (empty_frame q))
              (sized-holds out one [] (empty_frame out) nothing_holds),
          (
            sized-holds in0 one (exactly in1 one ∷ exactly out one ∷ [])
                (sized_frame in1 in0 one (exactly out one ∷ []) refl (sized_frame out in0 one [] refl (empty_frame in0)))
                (sized-holds in1 one (exactly out one ∷ []) (sized_frame out in1 one [] refl (empty_frame in1))
                (sized-holds out one [] (empty_frame out) nothing_holds)),
            (
              sized-holds out one [] (empty_frame out) nothing_holds,
              (
                sized-holds in0 pointer [] (empty_frame in0) nothing_holds,
                (
                  sized-holds in0 one (by_default in1 pointer ∷ []) (unsized_frame in1 in0 pointer refl)
                      (unsized_holds in1 pointer [] nothing_holds),
                  (sized-holds in0 one [] (empty_frame in0) nothing_holds, tt),
                ),
              ),
            ),
          ),
        ),
      ),
    ),
  )

  pub rule_holds : (op : Operation) → RuleHolds (rule_of op)
  unfolding rule_of or_else
  rule_holds op = go (first (λ (r : Rule). when among r.operations op then some r.steps else none) rules) refl
    where
      go : (x : Option (List Step)) → first (λ (r : Rule). when among r.operations op then some r.steps else none) rules ≡ x
          → RuleHolds (or_else [] x)
      go none e = nothing_holds
      go (some steps) e =
          let f = first_from (λ (r : Rule). when among r.operations op then some r.steps else none) rules steps e in
          subst RuleHolds (chosen (among f.1.operations op) f.1.steps steps f.3)
          (rules_at rules f.0 f.1 table-holds f.2)
