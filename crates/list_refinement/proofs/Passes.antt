-- The passes: what they leave of the words is what they leave of the actions.
use Prim.Native.Nat.{ℕ, zero, suc, ◌+◌, ◌*◌, ◌^◌, ◌≤◌, ◌<◌}
use mathlib.Core.Path.{◌≡◌, refl, sym, ◌∙◌, ap, subst}
use mathlib.Core.Bool.{Bool, true, false}
use mathlib.Core.List.{List, [], ◌∷◌, ◌++◌, append_assoc}
use native.Mathlib.Omega.{arith}
use native.Mathlib.Nat.{add-zero, zero-add}
use lib.ListN.{length, drop, length-append}
use borrow.Author.Tests.{ne_eqb, lt-ltb}
use Rattle.definition.specs.Value.{SemanticAction}
use Rattle.definition.specs.Ast.{Section}
use Rattle.definition.specs.Sizes as d
use Rattle.definition.specs.Sizes.{Sizing, pointer_size}
use Rattle.definition.specs.ActionList.{list_words}
use Rattle.access.specs.Loops.{run, run_down}
use Rattle.list_values.specs.Values.{place}
use Rattle.list_values.specs.Sizes.{Sized, sized, then_s}
use Rattle.list_pushes.specs.Passes.{action_place, update_action}
use Rattle.list_end.specs.Passes.{size_pass}
use Rattle.list_refinement.specs.Encoding.{actions_in, temporaries_in, enc_z, SoundTmp, Each, SoundAction, SizesHold}
use Rattle.list_refinement.proofs.Rules.{update_is, Ruled, ruled-after, updated_after}
use Rattle.list_refinement.proofs.Lists.{list_between, focus_at}

-- where an action stands
pub place_is : (base i : ℕ) → base < 4096 → i < 700000000000000000 → place base i ≡ base + 24 * i
unfolding place
place_is base i h j = rw (lt-ltb base 4096 h, lt-ltb i 700000000000000000 j) (omega arith)

action-place_is : (base i : ℕ) → base < 4096 → i < 700000000000000000 → action_place base i ≡ base + 24 * i
unfolding action_place
action-place_is base zero h j = omega arith
action-place_is base (suc i) h j = rw (ne_eqb (suc i) 0 (λ e. omega arith)) (place_is base (suc i) h j)

-- Actions that the passes can size.
abbrev pub RuledAction : Section → ℕ → SemanticAction → Type 0
RuledAction sec temporaries x = SoundAction sec temporaries x × Ruled x.kind x

-- what a pass leaves: as many actions and temporaries, and three errors more for each action at most
pub record AfterPass (sec : Section) (xs : List SemanticAction) (z : Sizing) (ys : List SemanticAction) (w : Sizing) : Type 0 where
  pub actions : Each (RuledAction sec (length w.temporaries)) ys
  pub temporaries : Each SoundTmp w.temporaries
  pub length_same : length ys ≡ length xs
  pub count : length w.temporaries ≡ length z.temporaries
  pub errors : length w.errors ≤ length z.errors + 3 * length xs
  pub begun : w.begun ≡ z.begun

-- a list of actions and a sizing as a pass leaves them
abbrev pub held_list : List ℕ → List ℕ → List ℕ → List SemanticAction × Sizing → Sized
held_list front tail rest r = sized (enc_z r.1) (actions_in front tail r.0) (temporaries_in rest r.1.temporaries)

module _ (s t : List ℕ) (sec : Section) (holds : SizesHold s t sec) where
  abbrev Pass : List SemanticAction → Sizing → List SemanticAction × Sizing → Type 0
  Pass xs z r = AfterPass sec xs z r.0 r.1

  pub forward-after : (xs : List SemanticAction) (z : Sizing) → Each (RuledAction sec (length z.temporaries)) xs
      → Each SoundTmp z.temporaries → Pass xs z (d.forward_pass sec xs z)
  unfolding d.forward_pass
  forward-after [] z f g = record { actions = tt; temporaries = g; length_same = refl; count = refl; errors = omega arith; begun = refl }
  forward-after (x ∷ xs) z f g =
      let a = updated_after s t sec holds true x z (f.0.0, g) in
      let b = forward-after xs (d.update_operand_sizes sec true x z).1
      (subst (λ (n : ℕ). Each (RuledAction sec n) xs) (sym a.count) f.1) a.temporaries in
      record {
        actions = (
          (
            subst (λ (n : ℕ). SoundAction sec n (d.update_operand_sizes sec true x z).0) (sym b.count) a.action,
            ruled-after
                a f.0.1,
          ),
          b.actions,
        );
        temporaries = b.temporaries;
        length_same = ap suc b.length_same;
        count = b.count ∙ a.count;
        errors = omega (arith, a.errors, b.errors);
        begun = b.begun ∙ a.begun;
      }

  pub backward_after : (xs : List SemanticAction) (z : Sizing) → Each (RuledAction sec (length z.temporaries)) xs
      → Each SoundTmp z.temporaries → Pass xs z (d.backward_pass sec xs z)
  unfolding d.backward_pass
  backward_after [] z f g = record { actions = tt; temporaries = g; length_same = refl; count = refl; errors = omega arith; begun = refl }
  backward_after (x ∷ xs) z f g =
      let b = backward_after xs z f.1 g in
      let a = updated_after s t sec holds false x (d.backward_pass sec xs z).1
      (subst (λ (n : ℕ). SoundAction sec n x) (sym b.count) f.0.0, b.temporaries) in
      record {
        actions = (
          (a.action, ruled-after a f.0.1),
          subst (λ (n : ℕ). Each (RuledAction sec n) (d.backward_pass sec xs z).0)
              (sym a.count) b.actions,
        );
        temporaries = a.temporaries;
        length_same = ap suc b.length_same;
        count = a.count ∙ b.count;
        errors = omega (arith, a.errors, b.errors);
        begun = a.begun ∙ b.begun;
      }

  module _ (front tail rest : List ℕ) (base : ℕ) (begins : length front ≡ base) (low : base < 4096) where
    module _ (ps : List SemanticAction) where
      one_is : (late : Bool) (x : SemanticAction) (ys : List SemanticAction) (z : Sizing) → length ps < 700000000000000000
          → RuledAction sec (length z.temporaries) x → Each SoundTmp z.temporaries → length z.errors + 3 < 2 ^ 64
          → update_action s t late base (pointer_size sec) (length ps) (held_list front tail rest (ps ++ (x ∷ ys), z))
          ≡ held_list front tail rest (ps ++ ((d.update_operand_sizes sec late x z).0 ∷ ys), (d.update_operand_sizes sec late x z).1)
      unfolding update_action then_s
      one_is late x ys z h f g r =
          rw (
            action-place_is base (length ps) low h,
            list_between front tail ps x ys,
            list_between front tail ps
                (d.update_operand_sizes sec late x z).0 ys,
          )
          (update_is s t sec holds rest (front ++ list_words ps) (list_words ys ++ drop (24 * (length ps + suc (length ys))) tail)
          (base + 24 * length ps) (focus_at front tail ps base begins) late x z 0
          (record { action = f.0; temporaries = g; errors = r }) f.1)

    one_more_lem : {A : Type 0} (ps : List A) (x : A) → length (ps ++ (x ∷ [])) ≡ suc (length ps)
    one_more_lem ps x = length-append ps (x ∷ []) ∙ omega arith

    forward_from : (xs ps : List SemanticAction) (z : Sizing) → length ps + length xs < 700000000000000000
        → Each (RuledAction sec (length z.temporaries)) xs → Each SoundTmp z.temporaries → length z.errors + 3 * length xs < 2 ^ 64
        → run (length xs) (length ps) (update_action s t true base (pointer_size sec)) (held_list front tail rest (ps ++ xs, z))
        ≡ held_list front tail rest (ps ++ (d.forward_pass sec xs z).0, (d.forward_pass sec xs z).1)
    unfolding run d.forward_pass
    forward_from [] ps z h f g r = refl
    forward_from (x ∷ xs) ps z h f g r =
        let a = updated_after s t sec holds true x z (f.0.0, g) in
        let i = forward_from xs (ps ++ ((d.update_operand_sizes sec true x z).0 ∷ [])) (d.update_operand_sizes sec true x z).1
        (rw (one_more_lem ps (d.update_operand_sizes sec true x z).0) (omega arith))
        (subst (λ (n : ℕ). Each (RuledAction sec n) xs) (sym a.count) f.1) a.temporaries (omega (arith, a.errors)) in
        ap (run (length xs) (suc (length ps)) (update_action s t true base (pointer_size sec)))
        (one_is ps true x xs z (omega arith) f.0 g (omega arith))
        ∙ (rw (
          one_more_lem ps (d.update_operand_sizes sec true x z).0,
          append_assoc ps ((d.update_operand_sizes sec true x z).0 ∷ []) xs,
          append_assoc ps ((d.update_operand_sizes sec true x z).0 ∷ [])
              (d.forward_pass sec xs (d.update_operand_sizes sec true x z).1).0,
        ) at i)

    pub forward_is : (xs : List SemanticAction) (z : Sizing) → length xs < 700000000000000000
        → Each (RuledAction sec (length z.temporaries)) xs → Each SoundTmp z.temporaries → length z.errors + 3 * length xs < 2 ^ 64
        → size_pass s t true (actions_in front tail xs) (temporaries_in rest z.temporaries) base (length xs) (pointer_size sec) (enc_z z)
        ≡ held_list front tail rest (d.forward_pass sec xs z)
    unfolding size_pass
    forward_is xs z h f g r = forward_from xs [] z (omega arith) f g r

    -- the first action last
    down_first : {A : Type 0} (n : ℕ) (f : ℕ → A → A) (x : A) → run_down (suc n) f x ≡ f 0 (run_down n (λ i. f (suc i)) x)
    unfolding run_down
    down_first zero f x = refl
    down_first (suc n) f x = down_first n f (f (suc n) x)

    backward_from : (xs ps : List SemanticAction) (z : Sizing) (f : ℕ → Sized → Sized)
        → ((i : ℕ) (x : Sized) → f i x ≡ update_action s t false base (pointer_size sec) (length ps + i) x)
        → length ps + length xs < 700000000000000000 → Each (RuledAction sec (length z.temporaries)) xs → Each SoundTmp z.temporaries
        → length z.errors + 3 * length xs < 2 ^ 64
        → run_down (length xs) f (held_list front tail rest (ps ++ xs, z))
        ≡ held_list front tail rest (ps ++ (d.backward_pass sec xs z).0, (d.backward_pass sec xs z).1)
    unfolding run_down d.backward_pass
    backward_from [] ps z f e h g k r = refl
    backward_from (x ∷ xs) ps z f e h g k r =
        let b = backward_after xs z g.1 k in
        let i = backward_from xs (ps ++ (x ∷ [])) z (λ i. f (suc i))
        (λ i y. e (suc i) y ∙ ap (λ (n : ℕ). update_action s t false base (pointer_size sec) n y) (next i))
        (rw (one_more_lem ps x) (omega arith)) g.1 k (omega arith) in
        let j = rw (append_assoc ps (x ∷ []) xs, append_assoc ps (x ∷ []) (d.backward_pass sec xs z).0) at i in
        down_first (length xs) f (held_list front tail rest (ps ++ (x ∷ xs), z)) ∙ ap (f 0) j ∙ e 0 _
        ∙ rw (add-zero (length ps)) (one_is ps false x (d.backward_pass sec xs z).0 (d.backward_pass sec xs z).1 (omega arith)
        (subst (λ (n : ℕ). SoundAction sec n x) (sym b.count) g.0.0, g.0.1) b.temporaries (omega (arith, b.errors)))
      where
        next : (i : ℕ) → length ps + suc i ≡ length (ps ++ (x ∷ [])) + i
        next i = omega (arith, one_more_lem ps x)

    pub backward_is : (xs : List SemanticAction) (z : Sizing) → length xs < 700000000000000000
        → Each (RuledAction sec (length z.temporaries)) xs → Each SoundTmp z.temporaries → length z.errors + 3 * length xs < 2 ^ 64
        → size_pass s t false (actions_in front tail xs) (temporaries_in rest z.temporaries) base (length xs) (pointer_size sec) (enc_z z)
        ≡ held_list front tail rest (d.backward_pass sec xs z)
    unfolding size_pass
    backward_is xs z h f g r = backward_from xs [] z (update_action s t false base (pointer_size sec))
        (λ i x. ap (λ (n : ℕ). update_action s t false base (pointer_size sec) n x) (sym (zero-add i))) (omega arith) f g r

    -- both passes
    pub inference_is : (xs : List SemanticAction) (z : Sizing) → length xs < 700000000000000000
        → Each (RuledAction sec (length z.temporaries)) xs → Each SoundTmp z.temporaries → length z.errors + 6 * length xs < 2 ^ 64
        → then_s (size_pass s t false (actions_in front tail xs) (temporaries_in rest z.temporaries) base (length xs) (pointer_size sec)
        (enc_z z)) (λ y a m. size_pass s t true a m base (length xs) (pointer_size sec) y)
        ≡ held_list front tail rest (d.apply_size_inference sec xs z)
    unfolding then_s d.apply_size_inference
    inference_is xs z h f g r =
        let b = backward_after xs z f g in
        let n = b.length_same in
        rw (backward_is xs z h f g (omega arith), ← n) (forward_is (d.backward_pass sec xs z).0 (d.backward_pass sec xs z).1
        (omega arith) b.actions b.temporaries (omega (arith, b.errors)))
