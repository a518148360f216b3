-- The end of `resolve`: the passes, the actions finished, the export's size fixed, errors judged. What the words answer is
-- what the definition answers.
use Prim.Native.Nat.{ℕ, suc, ◌+◌, ◌*◌, ◌^◌, ◌≤◌, ◌<◌}
use mathlib.Core.Path.{◌≡◌, refl, sym, ◌∙◌, ap, subst}
use mathlib.Core.Bool.{Bool, true, false}
use mathlib.Core.List.{List, [], ◌∷◌, ◌++◌}
use mathlib.Core.Option.{Option, none, some}
use native.Mathlib.Omega.{arith}
use lib.ListN.{length, length-append, length-drop}
use lib.Dec.{eqb}
use borrow.Author.Tests.{eq-eqb, ne_eqb, le-ltb}
use Rattle.access.specs.Le.{le16}
use Rattle.definition.specs.Refusals.{Refusal, refusal_number, errors_recorded}
use Rattle.definition.specs.Value.{Value, SemanticAction, ExportKind, Export}
use Rattle.definition.specs.Ast.{Section}
use Rattle.definition.specs.Sizes as sizes
use Rattle.definition.specs.Sizes.{Sizing, pointer_size, apply_size_inference}
use Rattle.definition.specs.Walk.{State, Env, Outcome, done, stopped, on, with_sizing}
use Rattle.definition.specs.End as d
use Rattle.definition.specs.End.{Semantics}
use Rattle.definition.specs.ActionList.{or_none, labels_placed, refusal, answered, export_kind_number}
use Rattle.definition_guarantee.specs.Tests as tests
use Rattle.definition_guarantee.proofs.Finish as ends
use Rattle.definition_guarantee.proofs.Layouts.{backward_rough, forward_rough, SmallSection, Rough}
use Rattle.definition_guarantee.proofs.Kept.{Kept}
use Rattle.list_values.specs.declared.sizes.Sizing.{Sizing as WordSizing}
use Rattle.list_end.specs.Outcomes.{Finished}
use Rattle.list_values.specs.Base.{Listed, listed, then_l}
use Rattle.prelude.specs.Base.{when◌then◌else◌}
use Rattle.list_values.specs.Values.{place}
use Rattle.list_values.specs.Sizes.{then_s}
use Rattle.list_end.specs.End.{fix_size, finish_actions}
use Rattle.stmt_walk.specs.Outcomes.{Walk}
use Rattle.stmt_walk.specs.Outcomes.{Export as WordExport}
use Rattle.resolve_answer.specs.Answers.{Resolved, refused, accepted}
use Rattle.resolve_answer.specs.Ends.{judged, export_fixed, judged_fixed, finish_export, finish_done, finish_sized, actions_between, both_passes, finish_all, finish}
use Rattle.list_refinement.specs.Encoding.{actions_in, temporaries_in, first_error, enc_z, enc_s, SoundTmp, Each, SoundAction, SizesHold}
use Rattle.list_refinement.proofs.Lists.{list_length}
use Rattle.list_refinement.proofs.Pushes.{tmps_length}
use Rattle.list_refinement.proofs.Passes.{inference_is, place_is, RuledAction, backward_after, forward-after}
use Rattle.list_refinement.proofs.Fixing.{fix_is, fix_sound}
use Rattle.list_refinement.proofs.Finishing.{finish_is, finish-done, refused_end, ended, seen_end, ending, Finishable, AfterFinish}
use Rattle.list_refinement.proofs.FromWalk.{rough_ruled, sound_finishable}
use Rattle.expr_refinement.proofs.Below.{Spare}
use Rattle.resolve_refinement.specs.Answers.{as_answer}
use Rattle.resolve_refinement.proofs.Answers.{refused_is}
use Rattle.resolve_refinement.proofs.Left.{LeftAs, actions_left, Begun, actions-begun}
use Rattle.resolve_refinement.proofs.Labels.{labels_kept}
use Rattle.resolve_refinement.proofs.Accepted.{ExportHeld, semantics, accepted_is}
use Rattle.expr_refinement.specs.Encoding.{tmps, count, Stood}
use Rattle.stmt_refinement.specs.Standing.{Beside, enc_e, walk_of}

-- actions as the walk leaves them can be ruled, and after the passes finished

ruled_all : (sec : Section) (n : ℕ) (xs : List SemanticAction) → tests.Each (Rough n (length sec.subtables)) xs → Each (SoundAction sec n) xs → Each (RuledAction sec n) xs
ruled_all sec n [] r f = tt
ruled_all sec n (x ∷ xs) r f = ((f.0, rough_ruled sec n x r.0), ruled_all sec n xs r.1 f.1)

finishable_all : (sec : Section) (n : ℕ) (xs : List SemanticAction) → tests.Each (Rough n (length sec.subtables)) xs → Each (RuledAction sec n) xs → Each (Finishable sec n) xs
finishable_all sec n [] r f = tt
finishable_all sec n (x ∷ xs) r f = (sound_finishable sec n x r.0 f.0.0, finishable_all sec n xs r.1 f.1)

-- a list of actions in its lent words
actions_length : (front tail : List ℕ) (xs : List SemanticAction) → 24 * length xs ≤ length tail → length (actions_in front tail xs) ≡ length front + length tail
actions_length front tail xs h = rw (length-append, length-append, list_length xs, length-drop) (omega arith)

-- What the end needs beside the state that the walk has left: the export, the labels placed and the statements.
pub record Leaves (sec : Section) (b : Beside) (st : State) : Type 0 where
  pub export : ExportHeld sec (count st) st.export b.export
  pub placed : b.placed ≡ labels_placed st.actions
  pub statements : b.statements ≡ st.statements

module _ (s t : List ℕ) (e : Env) (front tail rest : List ℕ) (holds : SizesHold s t e.section) (small : SmallSection e.section)
    (few : length e.section.subtables ≤ 32) (begins : length front ≡ 24 * length e.section.subtables) (short : length tail < 2 ^ 60) (shorter : length rest < 2 ^ 60)
    (spare : ℕ) (room : Spare spare tail) (b : Beside) (st : State) (stood : Stood e.section tail rest spare st) (kept : Kept e st) (leaves : Leaves e.section b st) where
  abbrev sub : ℕ
  sub = length e.section.subtables

  abbrev la : ℕ
  la = length front + length tail

  abbrev w : Walk
  w = walk_of b (enc_s (length front) st)

  -- after the passes

  abbrev back : List SemanticAction × Sizing
  back = sizes.backward_pass e.section st.actions st.sizing

  abbrev inferred : List SemanticAction × Sizing
  inferred = sizes.forward_pass e.section back.0 back.1

  abbrev from : State
  from = with_sizing inferred.1 st

  record Inferred : Type 0 where
    actions : Each (Finishable e.section (count from)) inferred.0
    temporaries : Each SoundTmp (tmps from)
    many : length inferred.0 ≡ length st.actions
    counted : count from ≡ count st
    errors : length from.sizing.errors ≤ length st.sizing.errors + 6 * length st.actions
    begun : from.sizing.begun ≡ st.sizing.begun

  ruled : Each (RuledAction e.section (count st)) st.actions
  ruled = ruled_all e.section (count st) st.actions kept.in_order.actions stood.sound

  inferred_is : Inferred
  inferred_is =
      let b = backward_after s t e.section holds st.actions st.sizing ruled stood.sizes in
      let f = forward-after s t e.section holds back.0 back.1 b.actions b.temporaries in
      let p = backward_rough e.section small (count st) sub st.actions st.sizing kept.in_order.actions kept.in_order.sizes in
      let q = forward_rough e.section small (count st) sub back.0 back.1 p.0 p.1 in
      let n : count from ≡ count st = f.count ∙ b.count in
      record {
        actions = finishable_all e.section (count from) inferred.0 (subst (λ (k : ℕ). tests.Each (Rough k sub) inferred.0) (sym n) q.0) f.actions;
        temporaries = f.temporaries;
        many = f.length_same ∙ b.length_same;
        counted = n;
        errors = omega (arith, b.errors, f.errors, b.length_same);
        begun = f.begun ∙ b.begun;
      }

  abbrev M : List ℕ
  M = temporaries_in rest (tmps from)

  M_length : length M ≡ length rest
  M_length = tmps_length rest (tmps from) (let c = inferred_is.counted in let r = stood.temporaries in omega arith)

  abbrev made : List SemanticAction → State → Option Export → Semantics
  made ys r x = semantics e.section inferred.0 ys r x

  -- errors judged
  abbrev Judgement : List SemanticAction → State → Option Export → WordExport → Type 0
  Judgement ys r x y = as_answer (judged (actions_in front tail ys) M sub (length st.actions) w y (enc_z r.sizing)) ≡ answered la (length rest) (on e (d.no_errors r.sizing.errors e r) λ _. λ e u. done (made ys r x) u)

  module _ (ys : List SemanticAction) (q : State) (finished : d.finish_actions inferred.0 e from ≡ done ys q) where
    after : AfterFinish inferred.0 from ys q
    after = finish-done e s t holds rest (tmps from) inferred_is.temporaries inferred.0 from refl inferred_is.actions ys q finished

    many : length ys ≡ length st.actions
    many = after.length_same ∙ inferred_is.many

    fits : 24 * length ys ≤ length tail
    fits = rw many stood.actions

    labels : ends.FinishedAll e.section (tmps from) inferred.0 ys → labels_placed (d.implicit_builds inferred.0 0 sub ++ ys) ≡ labels_placed st.actions
    unfolding apply_size_inference
    labels f = labels_kept e.section st.actions st.sizing (tmps from) ys f sub

    -- with no errors the end has changed nothing but the actions
    accepts : (r : State) → r.sizing.errors ≡ [] → (r.sizing.errors ≡ [] → r ≡ q) → (x : Option Export) (y : WordExport) → ExportHeld e.section (count from) x y
        → as_answer (accepted (actions_in front tail ys) M sub (length st.actions) w y) ≡ answered la (length rest) (done (made ys r x) r)
    unfolding answered
    accepts r none-recorded same x y export =
        let i = inferred_is in
        let rq = same none-recorded in
        let f = ends.finished e inferred.0 ys from q finished (ap (λ (u : State). u.sizing.errors) (sym rq) ∙ none-recorded) in
        let c : r ≡ from = rq ∙ f.0 in
        ap (λ (n : ℕ). as_answer (accepted (actions_in front tail ys) M sub n w y)) (sym many)
        ∙ accepted_is e.section front tail rest few begins short shorter inferred.0 ys from w x y fits after.built (omega (arith, i.counted, stood.temporaries)) (sym i.counted) leaves.statements (leaves.placed ∙ sym (labels f.1)) export
        ∙ ap (λ (u : State). answered la (length rest) (done (made ys u x) u)) (sym c)

    judgement : (r : State) → (r.sizing.errors ≡ [] → r ≡ q) → (x : Option Export) (y : WordExport) → ExportHeld e.section (count from) x y → Judgement ys r x y
    unfolding judged
    judgement r same x y export = go r.sizing.errors refl
      where
        go : (l : List (Option ℕ)) → r.sizing.errors ≡ l
            → as_answer (when eqb (length l) 0 then accepted (actions_in front tail ys) M sub (length st.actions) w y else refused (actions_in front tail ys) M 51 (first_error l) (length l)) ≡ answered la (length rest) (on e (d.no_errors l e r) λ _. λ e u. done (made ys r x) u)
        go [] i = unfold d.no_errors on in accepts r i same x y export
        go (o ∷ more) i = rw (ne_eqb (suc (length more)) 0 (λ z. omega arith)) (unfold d.no_errors on answered refusal_number first_error in refused_is (actions_in front tail ys) M la (length rest) errors_recorded o (suc (length more)) (actions_length front tail ys fits) M_length)

    -- the export's size fixed

    abbrev Concludes : Option Export → WordExport → Type 0
    Concludes x y =
        as_answer (when eqb y.kind 0 then judged (actions_in front tail ys) M sub (length st.actions) w y (enc_z q.sizing)
        else judged (actions_in front tail ys) M sub (length st.actions) w (export_fixed y (fix_size s t M y.v (pointer_size e.section) (enc_z q.sizing))) (fix_size s t M y.v (pointer_size e.section) (enc_z q.sizing)).z)
        ≡ answered la (length rest) (on e (d.finish_export x e q) λ x. λ e r. on e (d.no_errors r.sizing.errors e r) λ _. λ e u. done (made ys r x) u)

    fixed_same : (v : Value) (a : Option ℕ) → (sizes.fix_to e.section v a q.sizing).1.errors ≡ [] → with_sizing (sizes.fix_to e.section v a q.sizing).1 q ≡ q
    unfolding sizes.fix_to
    fixed_same v (some n) h = refl
    fixed_same v none h = absurd (snoc q.sizing.errors q.sizing.begun h)
      where
        snoc : (xs : List (Option ℕ)) (x : Option ℕ) → xs ++ (x ∷ []) ≡ [] → ⊥
        snoc [] x e = let z : ◌≡◌ {A = ℕ} 0 1 = cc in omega (arith, z)
        snoc (y ∷ xs) x e = let z : ◌≡◌ {A = ℕ} 0 1 = cc in omega (arith, z)

    size_same : (v : Value) → (sizes.fix_size e.section v q.sizing).1.errors ≡ [] → with_sizing (sizes.fix_size e.section v q.sizing).1 q ≡ q
    unfolding sizes.fix_size
    size_same v h = fixed_same v _ h

    some_kind : (k : ExportKind) → eqb (export_kind_number k) 0 ≡ false
    unfolding export_kind_number
    some_kind ExportKind.PlainValue = refl
    some_kind ExportKind.RamRef = refl
    some_kind ExportKind.RegisterRef = refl

    exports : (x : Option Export) (y : WordExport) → ExportHeld e.section (count from) x y → Concludes x y
    exports none y h = rw (eq-eqb y.kind 0 h.0.0) (unfold d.finish_export on in judgement q (λ _. refl) none y h)
    exports (some x) y h =
        ap (λ (y : WordExport). as_answer (when eqb y.kind 0 then judged (actions_in front tail ys) M sub (length st.actions) w y (enc_z q.sizing)
        else judged (actions_in front tail ys) M sub (length st.actions) w (export_fixed y (fix_size s t M y.v (pointer_size e.section) (enc_z q.sizing))) (fix_size s t M y.v (pointer_size e.section) (enc_z q.sizing)).z)) h.0
        ∙ rw (some_kind x.kind, fix_is s t e.section holds rest (tmps from) inferred_is.temporaries q.sizing after.sizing.temporaries x.value h.1.value errors)
        (unfold d.finish_export on in judgement (with_sizing (sizes.fix_size e.section x.value q.sizing).1 q) (size_same x.value) (some fixed_export) (enc_e fixed_export) (refl, record { value = fix_sound s t e.section holds rest (tmps from) inferred_is.temporaries q.sizing after.sizing.temporaries x.value h.1.value; size = h.1.size }))
      where
        fixed_export : Export
        fixed_export = record { kind = x.kind; value = (sizes.fix_size e.section x.value q.sizing).0; access_size = x.access_size }

        errors : length q.sizing.errors + 1 < 2 ^ 64
        errors = let i = inferred_is in let a = after.sizing.errors in let n = i.many in let m = i.errors in let l = stood.errors in let k = stood.actions in omega arith

  -- the actions finished, or a refusal at the statement begun last

  abbrev concluded : List SemanticAction → Env → State → Outcome Semantics
  concluded ys e q = on e (d.finish_export st.export e q) λ x. λ e r. on e (d.no_errors r.sizing.errors e r) λ _. λ e u. done (made ys r x) u

  export_held : ExportHeld e.section (count from) st.export b.export
  export_held = subst (λ (n : ℕ). ExportHeld e.section n st.export b.export) (sym inferred_is.counted) leaves.export

  refuses : (x : Resolved) (a : List ℕ) (r : Refusal) (ordinal : Option ℕ) (errors n m : ℕ) → n ≡ refusal_number r → m ≡ or_none ordinal → errors ≡ 0 → length a ≡ la
      → as_answer (when false then x else refused a M n m 0) ≡ answered la (length rest) (on e (stopped r ordinal errors) concluded)
  unfolding on answered
  refuses x a r ordinal errors n m h i j k = (λ c. as_answer (refused a M (h c) (i c) 0)) ∙ refused_is a M la (length rest) r ordinal 0 k M_length ∙ ap (refusal la (length rest) r ordinal) (sym j)

  goes_on : (x : Resolved) (ys : List SemanticAction) (q : State) → d.finish_actions inferred.0 e from ≡ done ys q → (a : List ℕ) (z : WordSizing) → a ≡ actions_in front tail ys → z ≡ enc_z q.sizing
      → as_answer (when true then finish_export s t a M sub (length st.actions) (pointer_size e.section) w z else x) ≡ answered la (length rest) (on e (done ys q) concluded)
  unfolding finish_export judged_fixed on
  goes_on x ys q p a z h k = (λ i. as_answer (finish_export s t (h i) M sub (length st.actions) (pointer_size e.section) w (k i))) ∙ exports ys q p st.export b.export export_held

  finishes : (x : Listed Finished) (o : Outcome (List SemanticAction)) → d.finish_actions inferred.0 e from ≡ o → seen_end x ≡ ending (actions_in front tail) o
      → LeftAs la (or_none st.sizing.begun) x → Begun st.sizing.begun o
      → as_answer (then_l x λ f a. finish_done s t a M sub (length st.actions) (pointer_size e.section) w f) ≡ answered la (length rest) (on e o concluded)
  unfolding then_l finish_done seen_end
  finishes (listed f a) o p h l g = go (eqb f.refusal 0) o p h g
    where
      go : (c : Bool) (o : Outcome (List SemanticAction)) → d.finish_actions inferred.0 e from ≡ o → (when c then ended f.z a else refused_end f.refusal) ≡ ending (actions_in front tail) o → Begun st.sizing.begun o
          → as_answer (when c then finish_export s t a M sub (length st.actions) (pointer_size e.section) w f.z else refused a M f.refusal f.z.begun 0) ≡ answered la (length rest) (on e o concluded)
      go true (done ys q) p h g =
          let k : ended f.z a ≡ ended (enc_z q.sizing) (actions_in front tail ys) = unfold ending in h in
          let z : f.z ≡ enc_z q.sizing = cc in
          let v : a ≡ actions_in front tail ys = cc in
          goes_on (refused a M f.refusal f.z.begun 0) ys q p a f.z v z
      go true (stopped r ordinal errors) p h g =
          let k : ended f.z a ≡ refused_end (refusal_number r) = unfold ending in h in
          let z : ◌≡◌ {A = ℕ} 0 1 = cc in
          absurd (omega arith)
      go false (done ys q) p h g =
          let k : refused_end f.refusal ≡ ended (enc_z q.sizing) (actions_in front tail ys) = unfold ending in h in
          let z : ◌≡◌ {A = ℕ} 0 1 = cc in
          absurd (omega arith)
      go false (stopped r ordinal errors) p h g =
          let k : refused_end f.refusal ≡ refused_end (refusal_number r) = unfold ending in h in
          let n : f.refusal ≡ refusal_number r = cc in
          refuses (finish_export s t a M sub (length st.actions) (pointer_size e.section) w f.z) a r ordinal errors f.refusal f.z.begun n (l.1 ∙ ap or_none (sym g.0)) g.1 l.0

  base_is : place 0 sub ≡ 24 * sub
  base_is = place_is 0 sub (omega arith) (omega arith) ∙ omega arith

  between : actions_between (24 * sub) (length front + 24 * length st.actions) ≡ length st.actions
  unfolding actions_between
  between = rw (le-ltb (length front + 24 * length st.actions) (24 * sub) (omega arith)) (omega arith)

  few-actions : length st.actions < 600000000000000000
  few-actions = let k = stood.actions in omega arith

  inference : then_s (both_passes s t (actions_in front tail st.actions) (temporaries_in rest (tmps st)) (24 * sub) (length st.actions) (pointer_size e.section) (enc_z st.sizing))
      (λ z a m. finish_sized s t a m sub (length st.actions) (pointer_size e.section) w z) ≡ finish_sized s t (actions_in front tail inferred.0) M sub (length st.actions) (pointer_size e.section) w (enc_z inferred.1)
  unfolding both_passes then_s apply_size_inference
  inference =
      let n = few-actions in let k = stood.errors in let l = stood.actions in
      rw (inference_is s t e.section holds front tail rest (24 * sub) begins (omega arith) st.actions st.sizing (omega arith) ruled stood.sizes (omega arith))

  seen : seen_end (finish_actions s t (actions_in front tail inferred.0) M (24 * sub) (length st.actions) (pointer_size e.section) (enc_z inferred.1)) ≡ ending (actions_in front tail) (d.finish_actions inferred.0 e from)
  seen =
      let i = inferred_is in let n = few-actions in let c = i.many in let m = i.errors in let k = stood.errors in let l = stood.actions in
      subst (λ (n : ℕ). seen_end (finish_actions s t (actions_in front tail inferred.0) M (24 * sub) n (pointer_size e.section) (enc_z inferred.1)) ≡ ending (actions_in front tail) (d.finish_actions inferred.0 e from)) i.many
      (finish_is e s t holds rest (tmps from) i.temporaries front tail (24 * sub) begins (omega arith) inferred.0 from (omega arith) refl i.actions (omega arith))

  sized_ends : as_answer (finish_sized s t (actions_in front tail inferred.0) M sub (length st.actions) (pointer_size e.section) w (enc_z inferred.1)) ≡ answered la (length rest) (on e (d.finish_actions inferred.0 e from) concluded)
  unfolding finish_sized
  sized_ends =
      let i = inferred_is in
      rw base_is
      (finishes (finish_actions s t (actions_in front tail inferred.0) M (24 * sub) (length st.actions) (pointer_size e.section) (enc_z inferred.1)) (d.finish_actions inferred.0 e from) refl seen
      (actions_left s t M la (or_none st.sizing.begun) (length st.actions) (actions_in front tail inferred.0) (24 * sub) (pointer_size e.section) (enc_z inferred.1) (actions_length front tail inferred.0 (rw i.many stood.actions)) (ap or_none i.begun))
      (actions-begun e st.sizing.begun inferred.0 from i.begun))

  -- The end's answer is the definition's.
  pub end_is : le16 s 20 ≡ length e.section.subtables
      → as_answer (finish s t (actions_in front tail st.actions) (temporaries_in rest (tmps st)) (pointer_size e.section) (walk_of b (enc_s (length front) st))) ≡ answered (length front + length tail) (length rest) (d.finish e st)
  unfolding finish finish_all d.finish apply_size_inference on
  end_is same = rw (same, base_is, between) (ap as_answer inference ∙ sized_ends)
