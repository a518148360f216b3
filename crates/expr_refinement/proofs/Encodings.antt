-- What is sound stays so with more temporaries and more actions.
use Prim.Native.Nat.{ℕ, ◌+◌, ◌≤◌}
use mathlib.Core.Path.{◌≡◌, refl, ◌∙◌}
use mathlib.Core.List.{List, [], ◌∷◌, ◌++◌}
use native.Mathlib.Omega.{arith}
use Rattle.prelude.specs.Base.{when◌then◌else◌, sum}
use Rattle.definition.specs.Value.{Value, SemanticAction}
use Rattle.definition.specs.Ast.{Section}
use Rattle.definition.specs.Walk.{ExprValue, State}
use Rattle.definition.specs.ActionList.{places_label, labels_placed}
pub use Rattle.definition_guarantee.proofs.Tests.{each_more}
use Rattle.list_refinement.specs.Encoding.{Sound, Each, SoundAction}
pub use Rattle.list_refinement.proofs.Pushes.{each_snoc as each_last}
use Rattle.list_refinement.proofs.Pushes as more
use Rattle.expr_refinement.specs.Encoding.{SoundX, Stood, Later}

-- more temporaries

pub sound_more : (sec : Section) (n k : ℕ) → n ≤ k → (v : Value) → Sound sec n v → Sound sec k v
sound_more sec n k l v h = more.sound_more k l h

pub x_more : (sec : Section) (n k : ℕ) → n ≤ k → (x : ExprValue) → SoundX sec n x → SoundX sec k x
x_more sec n k l (ExprValue.Local v) h = sound_more sec n k l v h
x_more sec n k l (ExprValue.Unbound v) h = sound_more sec n k l v h
x_more sec n k l (ExprValue.Const c z) h = h
x_more sec n k l (ExprValue.Apply op c vs) h = (h.0, h.1, each_more (Sound sec n) (Sound sec k) (sound_more sec n k l) vs h.2)
x_more sec n k l (ExprValue.RamRef v z) h = (sound_more sec n k l v h.0, h.1)
x_more sec n k l (ExprValue.RegisterRef v z) h = (sound_more sec n k l v h.0, h.1)
x_more sec n k l (ExprValue.AddressOf v z) h = (sound_more sec n k l v h.0, h.1)
x_more sec n k l (ExprValue.BitRange v from bits) h = (sound_more sec n k l v h.0, h.1)

pub stood_more : {sec : Section} {tail rest : List ℕ} {spare : ℕ} (more : ℕ) {st : State} → spare ≤ more → Stood sec tail rest spare st → Stood sec tail rest more st
stood_more more h f = record { actions = f.actions; temporaries = f.temporaries; sizes = f.sizes; errors = omega (arith, f.errors); sound = f.sound; params = f.params; mapping = f.mapping }

pub later_refl : (st : State) → Later st st
later_refl st = record { temporaries = omega arith; statements = refl; scope = refl; next_label = refl; export = refl; begun = refl; actions = omega arith; placed = refl }

pub later_trans : {a b c : State} → Later a b → Later b c → Later a c
later_trans p q = record {
  temporaries = omega (arith, p.temporaries, q.temporaries);
  statements = q.statements ∙ p.statements;
  scope = q.scope ∙ p.scope;
  next_label = q.next_label ∙ p.next_label;
  export = q.export ∙ p.export;
  begun = q.begun ∙ p.begun;
  actions = omega (arith, p.actions, q.actions);
  placed = q.placed ∙ p.placed;
}

pub params_more : (sec : Section) (n k : ℕ) → n ≤ k → (ps : List (ℕ × ExprValue)) → Each (λ (p : ℕ × ExprValue). SoundX sec n p.1) ps → Each (λ (p : ℕ × ExprValue). SoundX sec k p.1) ps
params_more sec n k l ps h = each_more _ _ (λ (p : ℕ × ExprValue) f. x_more sec n k l p.1 f) ps h

pub mapping_more : (sec : Section) (n k : ℕ) → n ≤ k → (ps : List (ℕ × Value)) → Each (λ (p : ℕ × Value). Sound sec n p.1) ps → Each (λ (p : ℕ × Value). Sound sec k p.1) ps
mapping_more sec n k l ps h = each_more _ _ (λ (p : ℕ × Value) f. sound_more sec n k l p.1 f) ps h

-- more actions

pub actions_more : (sec : Section) (n k : ℕ) → n ≤ k → (xs : List SemanticAction) → Each (SoundAction sec n) xs → Each (SoundAction sec k) xs
actions_more sec n k l xs h = each_more _ _ (λ (x : SemanticAction) f. more.action_more k l f) xs h

pub placed-last : (xs : List SemanticAction) (x : SemanticAction) → labels_placed (xs ++ (x ∷ [])) ≡ labels_placed xs + (when places_label x then 1 else 0)
unfolding labels_placed sum
placed-last [] x = omega arith
placed-last (y ∷ xs) x = let h = placed-last xs x in omega arith
