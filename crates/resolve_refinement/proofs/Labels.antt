-- The labels that a list places are as many after the passes and the end as the walk has placed: implicit Builds place none.
use Prim.Native.Nat.{ℕ, ◌+◌}
use mathlib.Core.Path.{◌≡◌, refl, ◌∙◌, ap, sym}
use mathlib.Core.Bool.{Bool, true, false}
use mathlib.Core.List.{List, [], ◌∷◌, ◌++◌}
use native.Mathlib.Omega.{arith}
use lib.ListN.{length}
use Rattle.prelude.specs.Base.{when◌then◌else◌, or_else, and_then, sum}
use Rattle.definition.specs.Value.{SemanticAction, operation_of, Temporary}
use Rattle.definition.specs.Ast.{Section}
use Rattle.definition.specs.Sizes.{Sizing, backward_pass, forward_pass, apply_size_inference}
use Rattle.definition.specs.End.{implicit_builds}
use Rattle.definition.specs.ActionList.{places_label, labels_placed}
use Rattle.definition_guarantee.proofs.Finish.{FinishedAll}
use Rattle.definition_guarantee.proofs.WholeList.{placing, place, label_numbers, same-labels, backward_heads, forward-heads, finished-heads, with_builds}

placed-numbers : (xs : List SemanticAction) → labels_placed xs ≡ length (label_numbers xs)
unfolding labels_placed places_label label_numbers placing place sum
placed-numbers [] = refl
placed-numbers (x ∷ xs) = go (placing x.kind) (placed-numbers xs)
  where
    go : (b : Bool) → labels_placed xs ≡ length (label_numbers xs) → (when b then 1 else 0) + labels_placed xs ≡ length (place b x.number (label_numbers xs))
    go true h = omega (arith, h)
    go false h = omega (arith, h)

module _ (sec : Section) (xs : List SemanticAction) (z : Sizing) (w : List Temporary) (ys : List SemanticAction) where
  pub labels_kept : FinishedAll sec w (apply_size_inference sec xs z).0 ys → (n : ℕ) → labels_placed (implicit_builds (apply_size_inference sec xs z).0 0 n ++ ys) ≡ labels_placed xs
  unfolding apply_size_inference
  labels_kept f n =
      let back : List SemanticAction × Sizing = backward_pass sec xs z in
      let sized : List SemanticAction = (forward_pass sec back.0 back.1).0 in
      let numbers : label_numbers ys ≡ label_numbers xs = same-labels sized ys (finished-heads sec w sized ys f) ∙ same-labels back.0 sized (forward-heads sec back.0 back.1) ∙ same-labels xs back.0 (backward_heads sec xs z) in
      let built : label_numbers (implicit_builds sized 0 n ++ ys) ≡ label_numbers ys = with_builds (λ (zs : List SemanticAction). label_numbers zs ≡ label_numbers ys) n (λ i zs k p. unfold label_numbers placing place operation_of or_else and_then in p) sized ys 0 n (omega arith) refl in
      placed-numbers (implicit_builds sized 0 n ++ ys) ∙ ap length (built ∙ numbers) ∙ sym (placed-numbers xs)
