-- The rule of the action at a position gives the words of what the definition's rule gives.
use Prim.Native.Nat.{ℕ, suc, ◌+◌, ◌≤◌}
use mathlib.Core.Path.{◌≡◌, refl, sym, ◌∙◌, subst}
use mathlib.Core.Bool.{Bool, false}
use mathlib.Core.List.{List, [], ◌∷◌}
use mathlib.Core.Option.{Option, none, some}
use native.Mathlib.Omega.{arith}
use lib.ListN.{length, get_or}
use lib.Dec.{eqb}
use Rattle.prelude.specs.Base.{is_some, when◌then◌else◌}
use Rattle.definition.specs.Value.{Value, ActionKind, SemanticAction, operation_of}
use Rattle.definition.specs.Ast.{Section}
use Rattle.definition.specs.Sizes as d
use Rattle.definition.specs.Sizes.{Operand, in0, in1, out, at, Sizing, set_given, set_operands, set_size_of_all, pointer_size, fixed_size, steps_of, apply_step, apply_steps}
use Rattle.definition.specs.ActionList.{action_words, action_kind_number, operation_word}
use Rattle.list_values.specs.Sizes.{then_s}
use Rattle.list_pushes.specs.Rules.{rule_of, shift, comparison, bool_not, branch, few_operands, apply_rule, update_operand_sizes}
use Rattle.list_refinement.specs.Encoding.{enc_z, SizesHold}
use Rattle.list_refinement.proofs.Framing.{get_in}
use Rattle.list_refinement.proofs.Operands.{words_of_lem, action_length}
use Rattle.list_refinement.proofs.Settled.{Ready}
use Rattle.list_refinement.proofs.Focus.{set_is, words_of, temporaries_of, held}
use Rattle.list_refinement.proofs.After.{After, after_ready, after_more, step_cost, steps_cost, Fit, Gives, set_after, all_after, steps-after}
use Rattle.list_refinement.proofs.Shares.{pair_is, triple_is, three_is, unsized_is}
use Rattle.list_refinement.proofs.RuleKinds.{ruled}
use Rattle.list_refinement.specs.RuleKinds.{has, RuleKind, rule_number, rule_steps, kind_of, Operands}

-- the operands that the action's rule needs
abbrev pub Ruled : ActionKind → SemanticAction → Type 0
Ruled (ActionKind.Op op) x = Operands (kind_of op) x
Ruled ActionKind.AddressOf x = Unit {0}
Ruled ActionKind.LoadRegister x = Unit {0}
Ruled ActionKind.StoreRegister x = Unit {0}
Ruled ActionKind.DelaySlot x = Unit {0}
Ruled ActionKind.Build x = Unit {0}

-- a rule leaves the operands that a rule needs

operands-after : {sec : Section} {cost : ℕ} {x : SemanticAction} {z : Sizing} {y : SemanticAction} {w : Sizing} (k : RuleKind)
    → After sec cost x z y w → Operands k x → Operands k y
operands-after RuleKind.unruled a h = tt
operands-after RuleKind.pair a h = (a.operands in0 ∙ h.0, a.operands out ∙ h.1)
operands-after RuleKind.shift a h = (a.operands in0 ∙ h.0, a.operands in1 ∙ h.1, a.operands out ∙ h.2)
operands-after RuleKind.triple a h = (a.operands in0 ∙ h.0, a.operands in1 ∙ h.1, a.operands out ∙ h.2)
operands-after RuleKind.comparison a h = (a.operands in0 ∙ h.0, a.operands in1 ∙ h.1, a.operands out ∙ h.2)
operands-after RuleKind.boolean a h = (a.operands in0 ∙ h.0, a.operands in1 ∙ h.1, a.operands out ∙ h.2)
operands-after RuleKind.negation a h = (a.operands in0 ∙ h.0, a.operands in1 ∙ h.1, a.operands out ∙ h.2)
operands-after RuleKind.nan a h = a.operands out ∙ h
operands-after RuleKind.address a h = a.operands in0 ∙ h
operands-after RuleKind.branch a h = (a.operands in0 ∙ h.0, a.operands in1 ∙ h.1)
operands-after RuleKind.condition a h = a.operands in0 ∙ h

kind_after : {sec : Section} {cost : ℕ} {x : SemanticAction} {z : Sizing} {y : SemanticAction} {w : Sizing} (k : ActionKind)
    → After sec cost x z y w → Ruled k x → Ruled k y
kind_after (ActionKind.Op op) a h = operands-after (kind_of op) a h
kind_after ActionKind.AddressOf a h = tt
kind_after ActionKind.LoadRegister a h = tt
kind_after ActionKind.StoreRegister a h = tt
kind_after ActionKind.DelaySlot a h = tt
kind_after ActionKind.Build a h = tt

pub ruled-after : {sec : Section} {cost : ℕ} {x : SemanticAction} {z : Sizing} {y : SemanticAction} {w : Sizing} → After sec cost x z y w
    → Ruled x.kind x → Ruled y.kind y
ruled-after {sec} {cost} {x} {z} {y} {w} a h = subst (λ (k : ActionKind). Ruled k y) (sym a.kind) (kind_after x.kind a h)

absent_given : (sec : Section) (n : ℕ) (p : Operand) (x : SemanticAction) (z : Sizing) (y : Option Value) → is_some y ≡ false
    → set_given sec n p y x z ≡ (x, z)
unfolding set_given is_some
absent_given sec n p x z none e = refl
absent_given sec n p x z (some v) e = cc

absent_set : (sec : Section) (n : ℕ) (p : Operand) (x : SemanticAction) (z : Sizing) → has p x ≡ false → d.set_operand sec n p x z ≡ (x, z)
unfolding d.set_operand
absent_set sec n p x z h = absent_given sec n p x z (at p x) h

-- a rule adds three errors at most

cost_few : (k : RuleKind) → steps_cost (rule_steps k) ≤ 3
unfolding steps_cost step_cost rule_steps
cost_few RuleKind.unruled = omega arith
cost_few RuleKind.pair = omega arith
cost_few RuleKind.shift = omega arith
cost_few RuleKind.triple = omega arith
cost_few RuleKind.comparison = omega arith
cost_few RuleKind.boolean = omega arith
cost_few RuleKind.negation = omega arith
cost_few RuleKind.nan = omega arith
cost_few RuleKind.address = omega arith
cost_few RuleKind.branch = omega arith
cost_few RuleKind.condition = omega arith

unruled_few : steps_cost (steps_of none) ≤ 3
unfolding steps_cost steps_of
unruled_few = omega arith

kind_few : (k : ActionKind) → steps_cost (steps_of (operation_of k)) ≤ 3
unfolding operation_of
kind_few (ActionKind.Op op) = unfold steps_of in rw (ruled op).steps (cost_few (kind_of op))
kind_few ActionKind.AddressOf = unruled_few
kind_few ActionKind.LoadRegister = unruled_few
kind_few ActionKind.StoreRegister = unruled_few
kind_few ActionKind.DelaySlot = unruled_few
kind_few ActionKind.Build = unruled_few

pub updated_after : (s t : List ℕ) (sec : Section) (holds : SizesHold s t sec) (late : Bool) (x : SemanticAction) (z : Sizing) → Fit sec x z
    → Gives sec 3 x z (d.update_operand_sizes sec late x z)
unfolding d.update_operand_sizes
updated_after s t sec holds late x z f = after_more 3 (kind_few x.kind)
    (steps-after s t sec holds late (steps_of (operation_of x.kind)) x z f)

module _ (s t : List ℕ) (sec : Section) (holds : SizesHold s t sec) (tail : List ℕ) (pre post : List ℕ) (place : ℕ)
    (begins : length pre ≡ place) where
  module _ (late : Bool) (x : SemanticAction) (z : Sizing) (room : ℕ) (r : Ready sec (suc (suc (suc room))) x z) where
    fit : Fit sec x z
    fit = (r.action, r.temporaries)

    -- after two operands were set, one more can be
    two-after : (p q : Operand) → Gives sec 2 x z (set_size_of_all sec late (p ∷ q ∷ []) x z)
    two-after p q = all_after s t sec holds late (p ∷ q ∷ []) x z fit

    shift_is : Operands RuleKind.shift x → shift s t late (words_of pre post x) (temporaries_of tail z) place (pointer_size sec) (enc_z z)
        ≡ held pre post tail (apply_steps sec late (rule_steps RuleKind.shift) x z)
    unfolding shift then_s rule_steps apply_steps apply_step fixed_size
    shift_is h =
        let a = two-after in0 out in
        rw (pair_is s t sec holds tail pre post place begins x z room r in0 out h.0 h.2 late)
        (unsized_is s t sec holds tail pre post place begins (pointer_size sec) holds.pointer_small in1 _ _ room
        (after_ready (suc room) (suc (suc (suc room))) (omega arith) r a) (a.operands in1 ∙ h.1))

    comparison_is : Operands RuleKind.comparison x → comparison s t late (words_of pre post x) (temporaries_of tail z) place
        (pointer_size sec) (enc_z z) ≡ held pre post tail (apply_steps sec late (rule_steps RuleKind.comparison) x z)
    unfolding comparison then_s rule_steps apply_steps apply_step fixed_size
    comparison_is h =
        let a = two-after in0 in1 in
        rw (pair_is s t sec holds tail pre post place begins x z room r in0 in1 h.0 h.1 late)
        (set_is s t sec holds tail pre post place begins 1 (omega arith) out _ _ room
        (after_ready (suc room) (suc (suc (suc room))) (omega arith) r a) (a.operands out ∙ h.2))

    negation_is : Operands RuleKind.negation x → bool_not s t (words_of pre post x) (temporaries_of tail z) place (enc_z z)
        ≡ held pre post tail (apply_steps sec late (rule_steps RuleKind.negation) x z)
    unfolding bool_not then_s rule_steps apply_steps apply_step fixed_size
    negation_is h =
        let a = set_after s t sec holds 1 (omega arith) in0 x z fit in
        rw (
          set_is s t sec holds tail pre post place begins 1 (omega arith) in0 x z (suc (suc room)) r h.0,
          absent_set sec 1 in1
              (d.set_operand sec 1 in0 x z).0 (d.set_operand sec 1 in0 x z).1 (a.operands in1 ∙ h.1),
        )
        (set_is s t sec holds tail pre post place begins 1 (omega arith) out _ _ room
        (after_ready (suc room) (suc (suc (suc room))) (omega arith) r a) (a.operands out ∙ h.2))

    branch_is : Operands RuleKind.branch x → branch s t (words_of pre post x) (temporaries_of tail z) place (pointer_size sec) (enc_z z)
        ≡ held pre post tail (apply_steps sec late (rule_steps RuleKind.branch) x z)
    unfolding branch then_s rule_steps apply_steps apply_step fixed_size
    branch_is h =
        let a = set_after s t sec holds 1 (omega arith) in0 x z fit in
        rw (set_is s t sec holds tail pre post place begins 1 (omega arith) in0 x z (suc (suc room)) r h.0)
        (unsized_is s t sec holds tail pre post place begins (pointer_size sec) holds.pointer_small in1 _ _ room
        (after_ready (suc room) (suc (suc (suc room))) (omega arith) r a) (a.operands in1 ∙ h.1))

    rule_is : (k : RuleKind) → Operands k x → apply_rule s t (rule_number k) late (words_of pre post x) (temporaries_of tail z) place
        (pointer_size sec) (enc_z z) ≡ held pre post tail (apply_steps sec late (rule_steps k) x z)
    unfolding apply_rule few_operands rule_number rule_steps apply_steps apply_step fixed_size set_operands
    rule_is RuleKind.unruled h = refl
    rule_is RuleKind.pair h = pair_is s t sec holds tail pre post place begins x z room r in0 out h.0 h.1 late
    rule_is RuleKind.shift h = shift_is h
    rule_is RuleKind.triple h = triple_is s t sec holds tail pre post place begins x z room r h.0 h.1 h.2 late
    rule_is RuleKind.comparison h = comparison_is h
    rule_is RuleKind.boolean h = three_is s t sec holds tail pre post place begins 1 (omega arith) x z room r h.0 h.1 h.2
    rule_is RuleKind.negation h = negation_is h
    rule_is RuleKind.nan h = set_is s t sec holds tail pre post place begins 1 (omega arith) out x z (suc (suc room)) r h
    rule_is RuleKind.address h = set_is s t sec holds tail pre post place begins (pointer_size sec) holds.pointer_small in0 x z
        (suc (suc room)) r h
    rule_is RuleKind.branch h = branch_is h
    rule_is RuleKind.condition h = set_is s t sec holds tail pre post place begins 1 (omega arith) in0 x z (suc (suc room)) r h

    head_is : get_or (words_of pre post x) (place + 0) 0 ≡ action_kind_number x.kind
    head_is = get_in pre (action_words x) post place begins 0 (rw (action_length x) (omega arith)) ∙ rw (words_of_lem x)

    code_is : get_or (words_of pre post x) (place + 1) 0 ≡ operation_word (operation_of x.kind)
    code_is = get_in pre (action_words x) post place begins 1 (rw (action_length x) (omega arith)) ∙ rw (words_of_lem x)

    by_kind : (k : ActionKind) → Ruled k x
        → (when eqb (action_kind_number k) 0 then apply_rule s t (rule_of (operation_word (operation_of k))) late (words_of pre post x)
        (temporaries_of tail z) place (pointer_size sec) (enc_z z) else held pre post tail (x, z))
        ≡ held pre post tail (apply_steps sec late (steps_of (operation_of k)) x z)
    unfolding action_kind_number operation_word operation_of steps_of apply_steps
    by_kind (ActionKind.Op op) h = rw ((ruled op).words, (ruled op).steps) (rule_is (kind_of op) h)
    by_kind ActionKind.AddressOf h = refl
    by_kind ActionKind.LoadRegister h = refl
    by_kind ActionKind.StoreRegister h = refl
    by_kind ActionKind.DelaySlot h = refl
    by_kind ActionKind.Build h = refl

    pub update_is : Ruled x.kind x → update_operand_sizes s t late (words_of pre post x) (temporaries_of tail z) place
        (pointer_size sec) (enc_z z) ≡ held pre post tail (d.update_operand_sizes sec late x z)
    unfolding update_operand_sizes d.update_operand_sizes
    update_is h = rw (head_is, code_is) (by_kind x.kind h)
