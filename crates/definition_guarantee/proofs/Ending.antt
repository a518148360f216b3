-- From the walk to the checker: if the walk leaves its state in order and the premise holds, the end's list passes.
use Prim.Native.Nat.{ℕ, ◌+◌, ◌*◌, ◌≤◌}
use mathlib.Core.Path.{◌≡◌, sym, ◌∙◌, ap, subst}
use mathlib.Core.Bool.{true}
use mathlib.Core.List.{List, [], ◌++◌}
use native.Mathlib.Omega.{arith}
use lib.ListN.{length}
use Rattle.prelude.specs.Base.{all}
use Rattle.definition.specs.Value.{SemanticAction}
use Rattle.definition.specs.Ast.{Section}
use Rattle.definition.specs.Sizes.{Sizing, pointer_size, backward_pass}
use Rattle.definition.specs.Walk.{State, Env, done}
use Rattle.definition.specs.End.{implicit_builds, Semantics, finish}
use Rattle.definition.specs.ActionList.{filled, list_words}
use Rattle.definition.specs.Checker.{layout_fits, sizes_hold, labels_once, all_built, check}
use Rattle.definition.specs.Premise.{sized_late}
use Rattle.definition_guarantee.specs.Tests.{Each}
use Rattle.definition_guarantee.proofs.Words.{words-pass}
use Rattle.definition_guarantee.proofs.Growth.{grown_trans}
use Rattle.definition_guarantee.proofs.Forward.{forward_grown, backward_grown, forward_obeys}
use Rattle.definition_guarantee.proofs.Finish.{end-done, inferred}
use Rattle.definition_guarantee.proofs.FinalSizes.{sizes_hold_lem}
use Rattle.definition_guarantee.proofs.Layouts.{backward_rough, forward_rough, finished-fits, SmallSizes, SmallSection, Rough}
use Rattle.definition_guarantee.proofs.WholeList.{Distinct, label_numbers, same-labels, same_length, backward_heads, forward-heads, finished-heads, all_built_lem, labels_once_lem, builds_fit, builds_hold, builds_length}

module _ (e : Env) where
  abbrev sec : Section
  sec = e.section

  -- What the walk leaves: actions whose layout fits but for subpieces, sizes that fit a word, each label placed once,
  -- and room for a Build of each subtable.
  pub record InOrder (s : State) : Type 0 where
    pub actions : Each (Rough (length s.sizing.temporaries) (length sec.subtables)) s.actions
    pub sizes : SmallSizes s.sizing.temporaries
    pub labels : Distinct (label_numbers s.actions)
    pub room : length s.actions + length sec.subtables ≤ e.action_room

  pub end-passes : (la : ℕ) (s t : State) (x : Semantics) → 24 * e.action_room ≤ la → SmallSection sec → InOrder s → finish e s ≡ done x t
      → sized_late sec [] (backward_pass sec s.actions s.sizing).0 (backward_pass sec s.actions s.sizing).1 ≡ []
      → check (filled la (list_words x.actions)) (length x.actions) (length x.temporaries) (length sec.subtables)
      (pointer_size sec) ≡ true
  end-passes la s t x fits small o h late =
      let d = end-done e s x t h in
      let n : ℕ = length s.sizing.temporaries in
      let sub : ℕ = length sec.subtables in
      let back : List SemanticAction × Sizing = backward_pass sec s.actions s.sizing in
      let grown = grown_trans (backward_grown sec s.actions s.sizing) (forward_grown sec back.0 back.1) in
      let count : length x.temporaries ≡ n = ap length d.temporaries ∙ grown.count in
      let b = backward_rough sec small n sub s.actions s.sizing o.actions o.sizes in
      let f = forward_rough sec small n sub back.0 back.1 b.0 b.1 in
      let ys : List SemanticAction = d.final in
      let heads = finished-heads sec _ (inferred e s).0 ys d.finished in
      let lengths : length ys ≡ length s.actions =
      same_length _ ys heads ∙ same_length _ _ (forward-heads sec back.0 back.1)
      ∙ same_length _ _ (backward_heads sec s.actions s.sizing) in
      let labels : label_numbers (inferred e s).0 ≡ label_numbers s.actions =
      same-labels _ _ (forward-heads sec back.0 back.1) ∙ same-labels _ _ (backward_heads sec s.actions s.sizing) in
      let longest = builds_length (inferred e s).0 ys 0 sub in
      let r = o.room in
      let built : List SemanticAction = implicit_builds (inferred e s).0 0 sub ++ ys in
      let layout : all (layout_fits n sub) built ≡ true =
      builds_fit n sub (inferred e s).0 ys (finished-fits sec small n sub (inferred e s).1.temporaries f.1 (inferred e s).0 ys
      f.0 d.finished) in
      let sizes : all (sizes_hold (pointer_size sec)) built ≡ true =
      builds_hold (pointer_size sec) (inferred e s).0 ys sub
      (sizes_hold_lem sec (inferred e s).1.temporaries (inferred e s).0 ys (forward_obeys sec [] back.0 back.1 late)
      d.finished) in
      let once : labels_once built ≡ true = labels_once_lem (inferred e s).0 ys sub heads (subst Distinct (sym labels) o.labels) in
      let all : all_built built sub ≡ true = all_built_lem (inferred e s).0 ys sub heads in
      rw (d.actions, count) (words-pass n sub built la (pointer_size sec) (omega arith) layout sizes once all)
