-- What a size rule leaves of an action and a sizing: sound values, as many temporaries, and not many more errors.
use Prim.Native.Nat.{ℕ, suc, ◌+◌, ◌≤◌, ◌<◌}
use mathlib.Core.Path.{◌≡◌, refl, sym, ◌∙◌, subst}
use mathlib.Core.Bool.{Bool, true, false}
use mathlib.Core.List.{List, [], ◌∷◌}
use mathlib.Core.Option.{Option, none, some}
use native.Mathlib.Omega.{arith}
use lib.ListN.{length, length-set}
use Rattle.prelude.specs.Base as definition
use Rattle.prelude.specs.Base.{◌or◌, or_else, and_then, is_some, all, first, contains}
use Rattle.definition.specs.Value.{Value, truncate, SemanticAction}
use Rattle.definition.specs.Ast.{Section}
use Rattle.definition.specs.Sizes as d
use Rattle.definition.specs.Sizes.{Operand, in0, in1, out, FixedSize, one, pointer, Step, equal, exactly, by_default, at, put, Sizing, but_first, known_at, set_size, set_given, set_operand, set_operands, share_size, set_size_of_all, fallback_size, pointer_size, fixed_size, set_unsized, apply_step, apply_steps}
use Rattle.definition.proofs.Openers.{base_opens}
use Rattle.list_refinement.specs.Encoding.{SoundTmp, Each, SoundAction, SizesHold}
use Rattle.list_refinement.proofs.Settled.{known_small, settled_sets, Ready, operand_sound, put-sound, put_has}
use Rattle.list_refinement.proofs.Focus.{truncate-sound}
use Rattle.list_refinement.specs.RuleKinds.{has}

-- at most so many errors were added
pub record After (sec : Section) (cost : ℕ) (x : SemanticAction) (z : Sizing) (y : SemanticAction) (w : Sizing) : Type 0 where
  pub action : SoundAction sec (length w.temporaries) y
  pub temporaries : Each SoundTmp w.temporaries
  pub count : length w.temporaries ≡ length z.temporaries
  pub errors : length w.errors ≤ length z.errors + cost
  pub begun : w.begun ≡ z.begun
  pub operands : (q : Operand) → has q y ≡ has q x
  pub kind : y.kind ≡ x.kind
  pub number : y.number ≡ x.number
  pub inputs : length y.inputs ≡ length x.inputs

pub after_ready : {sec : Section} {cost : ℕ} {x : SemanticAction} {z : Sizing} {y : SemanticAction} {w : Sizing} (room more : ℕ)
    → cost + room ≤ more → Ready sec more x z → After sec cost x z y w → Ready sec room y w
after_ready room more h r a = record { action = a.action; temporaries = a.temporaries; errors = omega (arith, r.errors, a.errors) }

pub after_more : {sec : Section} {c : ℕ} {x : SemanticAction} {z : Sizing} {y : SemanticAction} {w : Sizing} (cost : ℕ) → c ≤ cost
    → After sec c x z y w → After sec cost x z y w
after_more cost h a = record {
  action = a.action;
  temporaries = a.temporaries;
  count = a.count;
  errors = omega (arith, a.errors);
  begun = a.begun;
  operands = a.operands;
  kind = a.kind;
  number = a.number;
  inputs = a.inputs;
}

after_trans : {sec : Section} {c e : ℕ} {x : SemanticAction} {z : Sizing} {y : SemanticAction} {w : Sizing} {u : SemanticAction}
    {v : Sizing} (f : ℕ) → c + e ≤ f → After sec c x z y w → After sec e y w u v → After sec f x z u v
after_trans f h a b = record {
  action = b.action;
  temporaries = b.temporaries;
  count = b.count ∙ a.count;
  errors = omega (arith, a.errors, b.errors);
  begun = b.begun ∙ a.begun;
  operands = λ q. b.operands q ∙ a.operands q;
  kind = b.kind ∙ a.kind;
  number = b.number ∙ a.number;
  inputs = b.inputs ∙ a.inputs;
}

put_kind : (p : Operand) (v : Value) (x : SemanticAction)
    → ((put p v x).kind ≡ x.kind) × ((put p v x).number ≡ x.number) × (length (put p v x).inputs ≡ length x.inputs)
unfolding put
put_kind in0 v x = (refl, refl, length-set x.inputs 0 v)
put_kind in1 v x = (refl, refl, length-set x.inputs 1 v)
put_kind out v x = (refl, refl, refl)

abbrev pub Fit : Section → SemanticAction → Sizing → Type 0
Fit sec x z = SoundAction sec (length z.temporaries) x × Each SoundTmp z.temporaries

abbrev pub Gives : Section → ℕ → SemanticAction → Sizing → SemanticAction × Sizing → Type 0
Gives sec cost x z r = After sec cost x z r.0 r.1

-- how many errors a rule may add at most
unfoldable pub step_cost : Step → ℕ
step_cost (equal ps) = length ps
step_cost (exactly p n) = 1
step_cost (by_default p n) = 1

unfoldable pub steps_cost : List Step → ℕ
steps_cost [] = 0
steps_cost (x ∷ xs) = step_cost x + steps_cost xs

module _ (s t : List ℕ) (sec : Section) (holds : SizesHold s t sec) where
  after_refl : (cost : ℕ) (x : SemanticAction) (z : Sizing) → Fit sec x z → Gives sec cost x z (x, z)
  after_refl cost x z f = record {
    action = f.0;
    temporaries = f.1;
    count = refl;
    errors = omega arith;
    begun = refl;
    operands = λ q.
        refl;
    kind = refl;
    number = refl;
    inputs = refl;
  }

  after_fit : (cost : ℕ) (x : SemanticAction) (z : Sizing) (r : SemanticAction × Sizing) → Gives sec cost x z r → Fit sec r.0 r.1
  after_fit cost x z r a = (a.action, a.temporaries)

  given_after : (n : ℕ) → n < 65535 → (p : Operand) (x : SemanticAction) (z : Sizing) → Fit sec x z → (y : Option Value) → at p x ≡ y
      → Gives sec 1 x z (set_given sec n p y x z)
  unfolding set_given set_size
  given_after n small p x z f none e = after_refl 1 x z f
  given_after n small p x z f (some v) e =
      let q = settled_sets sec n small v z f.1 (d.size_of sec z.temporaries v) in
      let g = operand_sound p x v f.0 e in
      let k = put_kind p (truncate n v) x in
      record {
        action = subst (λ (k : ℕ). SoundAction sec k (put p (truncate n v) x)) (sym q.count)
            (put-sound p x (truncate n v) f.0 (truncate-sound sec n small p x z (length z.temporaries) v g));
        temporaries = q.fit;
        count = q.count;
        errors = q.errors;
        begun = q.begun;
        operands = λ o. put_has p o x (truncate n v) v e;
        kind = k.0;
        number = k.1;
        inputs = k.2;
      }

  pub set_after : (n : ℕ) → n < 65535 → (p : Operand) (x : SemanticAction) (z : Sizing) → Fit sec x z
      → Gives sec 1 x z (set_operand sec n p x z)
  unfolding set_operand
  set_after n small p x z f = given_after n small p x z f (at p x) refl

  pub sets_after : (n : ℕ) → n < 65535 → (ps : List Operand) (x : SemanticAction) (z : Sizing) (cost : ℕ) → length ps ≤ cost → Fit sec x z
      → Gives sec cost x z (set_operands sec n ps x z)
  unfolding set_operands
  sets_after n small [] x z cost h f = after_refl cost x z f
  sets_after n small (p ∷ ps) x z cost h f =
      let a = set_after n small p x z f in
      after_trans cost (omega arith) a (sets_after n small ps (set_operand sec n p x z).0 (set_operand sec n p x z).1 (length ps)
      (omega arith) (after_fit 1 x z (set_operand sec n p x z) a))

  -- the sizes that are set are small

  known-fits : (p : Operand) (x : SemanticAction) (z : Sizing) → Fit sec x z → or_else 0 (known_at sec x z p) < 65535
  unfolding and_then or_else
  known-fits p x z f = go (at p x) refl
    where
      go : (y : Option Value) → at p x ≡ y → or_else 0 (and_then y (d.size_of sec z.temporaries)) < 65535
      go none e = omega arith
      go (some v) e = known_small s t sec holds [] z.temporaries f.1 v (operand_sound p x v f.0 e)

  or_small : (a b : Option ℕ) → or_else 0 a < 65535 → or_else 0 b < 65535 → or_else 0 (a or b) < 65535
  unfolding or_else ◌or◌
  or_small none b h k = k
  or_small (some n) b h k = h

  first_small : (f : Operand → Option ℕ) → ((p : Operand) → or_else 0 (f p) < 65535) → (ps : List Operand) → or_else 0 (first f ps) < 65535
  unfolding first or_else
  first_small f h [] = omega arith
  first_small f h (p ∷ ps) = or_small (f p) (first f ps) (h p) (first_small f h ps)

  fallback_fits : (x : SemanticAction) (p : Operand) → or_else 0 (and_then (at p x) (fallback_size sec)) < 65535
  unfolding and_then or_else fallback_size
  fallback_fits x p = go (at p x)
    where
      test : (b : Bool) → or_else 0 (definition.when◌then◌else◌ b (some (pointer_size sec)) none) < 65535
      test true = unfold base_opens in holds.pointer_small
      test false = unfold base_opens in omega arith

      go : (y : Option Value) → or_else 0 (and_then y (fallback_size sec)) < 65535
      go none = omega arith
      go (some v) = test _

  late_fits : (late : Bool) (x : SemanticAction) (ps : List Operand)
      → or_else 0 (definition.when◌then◌else◌ late (first (λ p. and_then (at p x) (fallback_size sec)) ps) none) < 65535
  unfolding base_opens
  late_fits true x ps = first_small (λ p. and_then (at p x) (fallback_size sec)) (fallback_fits x) ps
  late_fits false x ps = omega arith

  fixed-fits : (z : FixedSize) → fixed_size (pointer_size sec) z < 65535
  unfolding fixed_size
  fixed-fits one = omega arith
  fixed-fits pointer = holds.pointer_small

  -- the steps of a rule

  but_fewer : (passes : Operand → Bool) (ps : List Operand) → length (but_first passes ps) ≤ length ps
  unfolding but_first base_opens
  but_fewer passes [] = omega arith
  but_fewer passes (p ∷ ps) = go (passes p) (but_fewer passes ps)
    where
      go : (b : Bool) → length (but_first passes ps) ≤ length ps
          → length (definition.when◌then◌else◌ b ps (p ∷ but_first passes ps)) ≤ suc (length ps)
      go true h = omega arith
      go false h = omega arith

  share_after : (a b : Option ℕ) (ps : List Operand) (x : SemanticAction) (z : Sizing) → or_else 0 a < 65535 → or_else 0 b < 65535
      → Fit sec x z → Gives sec (length ps) x z (share_size sec a b ps x z)
  unfolding share_size or_else
  share_after none none ps x z h k f = after_refl (length ps) x z f
  share_after none (some n) ps x z h k f = sets_after n k ps x z (length ps) (omega arith) f
  share_after (some n) b ps x z h k f = go (all (λ p. contains n (known_at sec x z p)) ps)
    where
      qs : List Operand
      qs = but_first (λ p. is_some (known_at sec x z p)) ps

      go : (c : Bool) → Gives sec (length ps) x z (definition.when◌then◌else◌ c (x, z) (set_operands sec n qs x z))
      go true = unfold base_opens in after_refl (length ps) x z f
      go false = unfold base_opens in sets_after n h qs x z (length ps) (but_fewer (λ p. is_some (known_at sec x z p)) ps) f

  pub all_after : (late : Bool) (ps : List Operand) (x : SemanticAction) (z : Sizing) → Fit sec x z
      → Gives sec (length ps) x z (set_size_of_all sec late ps x z)
  unfolding set_size_of_all
  all_after late ps x z f = share_after _ _ ps x z (first_small (known_at sec x z) (λ p. known-fits p x z f) ps) (late_fits late x ps) f

  unsized_after : (a : Option ℕ) (n : ℕ) → n < 65535 → (p : Operand) (x : SemanticAction) (z : Sizing) → Fit sec x z
      → Gives sec 1 x z (set_unsized sec a n p x z)
  unfolding set_unsized
  unsized_after none n small p x z f = set_after n small p x z f
  unsized_after (some m) n small p x z f = after_refl 1 x z f

  pub step_after : (late : Bool) (y : Step) (x : SemanticAction) (z : Sizing) → Fit sec x z
      → Gives sec (step_cost y) x z (apply_step sec late y x z)
  unfolding apply_step step_cost
  step_after late (equal ps) x z f = all_after late ps x z f
  step_after late (exactly p n) x z f = set_after (fixed_size (pointer_size sec) n) (fixed-fits n) p x z f
  step_after late (by_default p n) x z f = unsized_after (known_at sec x z p) (fixed_size (pointer_size sec) n) (fixed-fits n) p x z f

  pub steps-after : (late : Bool) (ys : List Step) (x : SemanticAction) (z : Sizing) → Fit sec x z
      → Gives sec (steps_cost ys) x z (apply_steps sec late ys x z)
  unfolding apply_steps steps_cost
  steps-after late [] x z f = after_refl 0 x z f
  steps-after late (y ∷ ys) x z f =
      let a = step_after late y x z f in
      after_trans (step_cost y + steps_cost ys) (omega arith) a
      (steps-after late ys (apply_step sec late y x z).0 (apply_step sec late y x z).1
      (after_fit (step_cost y) x z (apply_step sec late y x z) a))
