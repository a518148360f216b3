-- The end of each action: its sizes fixed, and a subpiece turned into a copy; or a refusal.
use Prim.Native.Nat.{ℕ, suc, ◌+◌, ◌*◌, ◌%◌, ◌^◌, ◌≤◌, ◌<◌}
use mathlib.Core.Path.{◌≡◌, refl, sym, ◌∙◌, ap, subst}
use mathlib.Core.Bool.{Bool, true, false}
use mathlib.Core.List.{List, [], ◌∷◌, ◌++◌, append_assoc}
use mathlib.Core.Option.{Option, none, some}
use native.Mathlib.Omega.{arith}
use lib.ListN.{length, get_or, set, drop, length-append, length-set}
use lib.Dec.{eqb, leb}
use borrow.Author.Tests.{ne_eqb, leb-true}
use Rattle.prelude.specs.Base as definition
use Rattle.prelude.specs.Base.{or_else, and_then, any, when◌then◌else◌}
use Rattle.definition.specs.Refusals.{refusal_number, subpiece_size, offset_too_far}
use Rattle.definition.specs.Operations.{Operation, operation_number, is_op}
use Rattle.definition.specs.Value.{kind_number, Value, slice_bytes, ActionKind, SemanticAction, operation_of, Temporary}
use Rattle.definition.specs.Ast.{Section}
use Rattle.definition.specs.Sizes as sizes
use Rattle.definition.specs.Sizes.{in0, out, at, Sizing, pointer_size}
use Rattle.definition.specs.Walk.{State, Env, Outcome, done, stopped, on, Walk, require, expect, with_sizing, sliced}
use Rattle.definition.specs.End as d
use Rattle.definition.specs.End.{sliced_inputs, is_build, builds}
use Rattle.definition.specs.ActionList.{or_none, input_words, value_words, action_kind_number, operation_word, filled, action_words, list_words}
use Rattle.definition.proofs.Openers.{base_opens}
use Rattle.file_refinement.proofs.AgreeStream.{eqb_sym}
use Rattle.list_values.specs.declared.value.Value.{Value as WordValue}
use Rattle.list_values.specs.declared.sizes.Sizing.{Sizing as WordSizing}
use Rattle.list_end.specs.Outcomes.{Finished}
use Rattle.list_values.specs.Base.{Listed, listed, then_l}
use Rattle.list_values.specs.Outcomes.{Slice}
use Rattle.list_values.specs.Values as words
use Rattle.list_values.specs.Values.{word, value_at, put_value, place}
use Rattle.list_end.specs.End.{finished, write_copy, copy_of, subpiece_copy, finish_fixed, finish_op, then_f, finish_from, finish_actions, fix_operands}
use Rattle.list_refinement.specs.Encoding.{enc_v, packed, actions_in, temporaries_in, enc_z, Sound, SoundTmp, Each, EachOption, SoundAction, SizesHold}
use Rattle.list_refinement.proofs.Framing.{get_in, set_in}
use Rattle.list_refinement.proofs.Operands.{word_is, words_of_lem, out_number, out_word, action_length, value_at_lem}
use Rattle.list_refinement.proofs.Focus.{words_of}
use Rattle.list_refinement.proofs.Lists.{list_between, focus_at}
use Rattle.list_refinement.proofs.Passes.{place_is}
use Rattle.list_refinement.proofs.Fixing.{operands-fixed, inputs-after, inputs-sound, output-after, output-sound, AfterFix}

-- Answers compared: a refusal by its number, anything else with the sizing and the actions.

pub data Ended : Type 0 where
  refused_end : ℕ → Ended
  ended : WordSizing → List ℕ → Ended

unfoldable pub seen_end : Listed Finished → Ended
seen_end (listed f a) = when eqb f.refusal 0 then ended f.z a else refused_end f.refusal

unfoldable pub ending : {A : Type 0} → (A → List ℕ) → Outcome A → Ended
ending words (done y s) = ended (enc_z s.sizing) (words y)
ending words (stopped r ordinal errors) = refused_end (refusal_number r)

pub bind_end : {A B : Type 0} (e : Env) (words : A → List ℕ) (more : B → List ℕ) (x : Listed Finished) (o : Outcome A)
    (g : WordSizing → List ℕ → Listed Finished) (k : A → Walk B)
    → seen_end x ≡ ending words o → ((y : A) (s : State) → o ≡ done y s → seen_end (g (enc_z s.sizing) (words y)) ≡ ending more (k y e s))
    → seen_end (then_f x g) ≡ ending more (on e o k)
unfolding then_f
bind_end {A} {B} e words more (listed f a) o g k h i = go (eqb f.refusal 0) refl o (unfold seen_end in h) i
  where
    go : (b : Bool) → eqb f.refusal 0 ≡ b → (o : Outcome A) → (when b then ended f.z a else refused_end f.refusal) ≡ ending words o
        → ((y : A) (s : State) → o ≡ done y s → seen_end (g (enc_z s.sizing) (words y)) ≡ ending more (k y e s))
        → seen_end (when b then g f.z a else listed f a) ≡ ending more (on e o k)
    go true p (done y s) h i = unfold on in
        (let q : ended f.z a ≡ ended (enc_z s.sizing) (words y) = unfold ending in h in
        let u : f.z ≡ enc_z s.sizing = cc in
        let v : a ≡ words y = cc in
        rw (u, v) (i y s refl))
    go true p (stopped r ordinal errors) h i =
        let q : ended f.z a ≡ refused_end (refusal_number r) = unfold ending in h in
        cc
    go false p (done y s) h i =
        let q : refused_end f.refusal ≡ ended (enc_z s.sizing) (words y) = unfold ending in h in
        cc
    go false p (stopped r ordinal errors) h i = unfold on seen_end ending in rw p (unfold ending in h)

-- a subpiece

-- A subpiece has one input, an output, and a number of 16 bits.
pub record Piece (number : ℕ) (inputs : List Value) (output : Option Value) : Type 0 where
  pub input : Value
  pub result : Value
  pub one_input : inputs ≡ input ∷ []
  pub an_output : output ≡ some result
  pub small : number < 65536

module _ (pre post : List ℕ) (at0 : ℕ) (begins : length pre ≡ at0) where
  set_at : (ws : List ℕ) (i v : ℕ) → i < length ws → set (pre ++ (ws ++ post)) (at0 + i) v ≡ pre ++ (set ws i v ++ post)
  set_at ws i v h = set_in pre ws post at0 begins i v h

  copy_words : (ws : List ℕ) (v : WordValue) → length ws ≡ 24
      → write_copy (pre ++ (ws ++ post)) at0 v ≡ pre ++ (set (set (set (set ws 1 57) 2 0) 6 v.number) 7 (word v) ++ post)
  unfolding write_copy put_value
  copy_words ws v h =
      let a : length (set ws 1 57) ≡ 24 = length-set ws 1 57 ∙ h in
      let b : length (set (set ws 1 57) 2 0) ≡ 24 = length-set (set ws 1 57) 2 0 ∙ a in
      let c : length (set (set (set ws 1 57) 2 0) 6 v.number) ≡ 24 = length-set (set (set ws 1 57) 2 0) 6 v.number ∙ b in
      rw (
        set_at ws 1 57 (omega arith),
        set_at (set ws 1 57) 2 0 (omega arith),
        set_at (set (set ws 1 57) 2 0) 6 v.number (omega arith),
        set_at (set (set (set ws 1 57) 2 0) 6 v.number) 7 _ (omega arith),
      )

  -- the copy that a subpiece becomes
  abbrev copied : ℕ → ℕ → Value → Option Value → SemanticAction
  copied more size v o = record { kind = ActionKind.Op Operation.Copy; number = 0; inputs = slice_bytes more size v ∷ []; output = o }

  -- that part of a value, as its words have it
  abbrev part : ℕ → ℕ → Value → WordValue
  part more size v = record { kind = kind_number v.kind; number = v.number; offset = v.offset + more; size = size }

  copy_is : (op : Operation) (number size : ℕ) (v o : Value) → v.offset + number ≤ 65535 → size < 65535
      → write_copy (words_of pre post (record { kind = ActionKind.Op op; number = number; inputs = v ∷ []; output = some o })) at0
      (part number size v) ≡ words_of pre post (copied number size v (some o))
  copy_is op number size v o h j =
      let x : SemanticAction = record { kind = ActionKind.Op op; number = number; inputs = v ∷ []; output = some o } in
      let e : word (record { kind = kind_number v.kind; number = v.number; offset = v.offset + number; size = size })
      ≡ packed (slice_bytes number size v) = unfold or_none or_else in word_is (slice_bytes number size v) h (unfold or_else in j) in
      copy_words (action_words x) (part number size v) (action_length x)
      ∙ rw (e, words_of_lem x, words_of_lem (copied number size v (some o)))
      (unfold action_kind_number operation_word operation_of operation_number out_number out_word input_words value_words filled packed in refl)

  module _ (op : Operation) (number : ℕ) (small : number < 65536) (v o : Value) (offset : v.offset ≤ 65535)
      (size : or_else 0 v.size < 65535) (out_offset : o.offset ≤ 65535) (out_size : or_else 0 o.size < 65535) (e : Env) (u : State) where
    abbrev piece : SemanticAction
    piece = record { kind = ActionKind.Op op; number = number; inputs = v ∷ []; output = some o }

    abbrev ends : Listed ℕ → Ended
    ends x = seen_end (then_l x (λ r b. listed (finished r (enc_z u.sizing)) b))

    sliced_is : (n : ℕ) → n < 65535 → (b : Bool) → leb (v.offset + number) 65535 ≡ b
        → ends (copy_of (words_of pre post piece) at0 (when b then Slice.Is (part number n v) else Slice.No 42))
        ≡ ending (words_of pre post) (on e (on e (on e (require b offset_too_far e u) λ _. λ e s. done (slice_bytes number n v) s) λ part. λ e
        s. done (part ∷ []) s) λ inputs. λ e s. done
        (record { kind = ActionKind.Op Operation.Copy; number = 0; inputs = inputs; output = some o }) s)
    unfolding copy_of on require seen_end then_l ending refusal_number
    sliced_is n h true p = rw (copy_is op number n v o (leb-true (v.offset + number) 65535 p) h)
    sliced_is n h false p = refl

    copied_is : (z : Option ℕ) → or_else 0 z < 65535
        → ends (when eqb (or_none z) 65535 then listed 50 (words_of pre post piece) else copy_of (words_of pre post piece) at0 (words.slice_bytes (enc_v v) number (or_none z)))
        ≡ ending (words_of pre post) (on e (expect subpiece_size z e u) λ size. λ e s. on e (sliced_inputs number size (v ∷ []) e s) λ inputs.
        λ e s. done (record { kind = ActionKind.Op Operation.Copy; number = 0; inputs = inputs; output = some o }) s)
    unfolding words.slice_bytes or_none or_else expect on sliced_inputs sliced
    copied_is none h = unfold seen_end then_l ending refusal_number in refl
    copied_is (some n) h = rw (ne_eqb n 65535 (λ q. omega arith))
        (sliced_is n h (leb (v.offset + number) 65535) refl)

    piece_is : ends (subpiece_copy (words_of pre post piece) at0) ≡ ending (words_of pre post) (d.subpiece_copy piece e u)
    unfolding subpiece_copy d.subpiece_copy and_then
    piece_is =
        let a : value_at (words_of pre post piece) at0 6 ≡ enc_v v = value_at_lem pre post at0 begins in0 piece v (unfold at in refl) offset size
        in
        let b : value_at (words_of pre post piece) at0 4 ≡ enc_v o = value_at_lem pre post at0 begins out piece o (unfold at in refl) out_offset
        out_size in
        let c : get_or (words_of pre post piece) (at0 + 2) 0
        ≡ number = get_in pre (action_words piece) post at0 begins 2 (rw (action_length piece) (omega arith)) ∙ rw (words_of_lem piece) in
        let m : number % 65536 ≡ number = omega arith in
        rw (a, b, c, m) (copied_is o.size out_size)

  -- an operation whose sizes are fixed
  module _ (op : Operation) (number : ℕ) (sec : Section) (n : ℕ) (e : Env) (u : State) where
    abbrev X : List Value → Option Value → SemanticAction
    X vs y = record { kind = ActionKind.Op op; number = number; inputs = vs; output = y }

    tested_is : (b : Bool) (vs : List Value) (y : Option Value) → SoundAction sec n (X vs y) → (b ≡ true → Piece number vs y)
        → seen_end (when b then then_l (subpiece_copy (words_of pre post (X vs y)) at0) (λ r c. listed (finished r (enc_z u.sizing)) c) else
        listed (finished 0 (enc_z u.sizing)) (words_of pre post (X vs y)))
        ≡ ending (words_of pre post) (definition.when◌then◌else◌ b (d.subpiece_copy (X vs y)) (λ e s. done (X vs y) s) e u)
    unfolding base_opens seen_end ending
    tested_is true vs y g p =
        let q = p refl in
        let h : Sound sec n q.input = (subst (Each (Sound sec n)) q.one_input g.inputs).0 in
        let j : Sound sec n q.result = subst (EachOption (Sound sec n)) q.an_output g.output in
        rw (q.one_input, q.an_output) (piece_is op number q.small q.input q.result h.offset h.size j.offset j.size e
        u)
    tested_is false vs y g p = refl

    fixed_is : (vs : List Value) (y : Option Value) → SoundAction sec n (X vs y) → (eqb (operation_number op) 66 ≡ true → Piece number vs y)
        → seen_end (finish_fixed (words_of pre post (X vs y)) at0 (enc_z u.sizing))
        ≡ ending (words_of pre post) (definition.when◌then◌else◌ (is_op Operation.Subpiece op) (d.subpiece_copy (X vs y))
        (λ e s. done (X vs y) s) e u)
    unfolding finish_fixed
    fixed_is vs y f p =
        let a : get_or (words_of pre post (X vs y)) (at0 + 1) 0
        ≡ operation_number op = get_in pre (action_words (X vs y)) post at0 begins 1 (rw (action_length (X vs y)) (omega arith))
        ∙ rw (words_of_lem (X vs y)) (unfold operation_of operation_word in refl) in
        let b : is_op Operation.Subpiece op ≡ eqb (operation_number op) 66 = unfold operation_number in eqb_sym 66 (operation_number op) in
        rw (a, b) (tested_is (eqb (operation_number op) 66) vs y f p)

-- An action that the end can finish.
pub record Finishable (sec : Section) (temporaries : ℕ) (x : SemanticAction) : Type 0 where
  pub sound : SoundAction sec temporaries x
  pub few : length x.inputs ≤ 8
  pub piece : (op : Operation) → x.kind ≡ ActionKind.Op op → eqb (operation_number op) 66 ≡ true → Piece x.number x.inputs x.output

module _ (sec : Section) where
  piece_inputs : (vs : List Value) (v : Value) (z : Sizing) → vs ≡ v ∷ [] → (sizes.fix_inputs sec vs z).0 ≡ (sizes.fix_size sec v z).0 ∷ []
  unfolding sizes.fix_inputs
  piece_inputs vs v z e = rw e

  piece_output : (y : Option Value) (o : Value) (z : Sizing) → y ≡ some o → (sizes.fix_output sec y z).0 ≡ some (sizes.fix_size sec o z).0
  unfolding sizes.fix_output
  piece_output y o z e = rw e

  piece_fixed : (number : ℕ) (vs : List Value) (y : Option Value) (z w : Sizing) → Piece number vs y
      → Piece number (sizes.fix_inputs sec vs z).0 (sizes.fix_output sec y w).0
  piece_fixed number vs y z w p = record {
    input = (sizes.fix_size sec p.input z).0;
    result = (sizes.fix_size sec p.result w).0;
    one_input = piece_inputs vs p.input z p.one_input;
    an_output = piece_output y p.result w p.an_output;
    small = p.small;
  }

-- a copy leaves the state

module _ (e : Env) (u : State) where
  sliced-done : (number n : ℕ) (v w : Value) (q : State) → sliced number n v e u ≡ done w q → q ≡ u
  unfolding sliced on
  sliced-done number n v w q h = go (leb (v.offset + number) 65535) h
    where
      go : (b : Bool) → on e (require b offset_too_far e u) (λ _. λ e s. done (slice_bytes number n v) s) ≡ done w q → q ≡ u
      go true h = let k : done (slice_bytes number n v) u ≡ done w q = unfold require in h in cc
      go false h = let k : stopped offset_too_far u.sizing.begun 0 ≡ done w q = unfold require in h in cc

  -- what follows a step that leaves the state
  inputs-done : (number n : ℕ) (vs ws : List Value) (q : State) → sliced_inputs number n vs e u ≡ done ws q → q ≡ u
  unfolding sliced_inputs
  inputs-done number n [] ws q h = cc
  inputs-done number n (v ∷ vs) ws q h = go (sliced number n v e u) refl h
    where
      go : (o : Outcome Value) → sliced number n v e u ≡ o → on e o (λ part. λ e s. done (part ∷ vs) s) ≡ done ws q → q ≡ u
      go (done w r) p h = let a = sliced-done number n v w r p in let k : done (w ∷ vs) r ≡ done ws q = unfold on in h in cc
      go (stopped r ordinal errors) p h = let k : stopped r ordinal errors ≡ done ws q = unfold on in h in cc

  copy_done : (x y : SemanticAction) (q : State) → d.subpiece_copy x e u ≡ done y q → (q ≡ u) × (y.kind ≡ ActionKind.Op Operation.Copy)
  unfolding d.subpiece_copy
  copy_done x y q h = go (and_then x.output λ (v : Value). v.size) h
    where
      then_inputs : (n : ℕ) (o : Outcome (List Value)) → sliced_inputs x.number n x.inputs e u ≡ o
          → on e o (λ inputs. λ e s. done (record { kind = ActionKind.Op Operation.Copy; number = 0; inputs = inputs; output = x.output })
          s) ≡ done y q → (q ≡ u) × (y.kind ≡ ActionKind.Op Operation.Copy)
      then_inputs n (done ws r) p h =
          let a = inputs-done x.number n x.inputs ws r p in
          let k : done (record { kind = ActionKind.Op Operation.Copy; number = 0; inputs = ws; output = x.output }) r
          ≡ done y q = unfold on in h in
          let c : record { kind = ActionKind.Op Operation.Copy; number = 0; inputs = ws; output = x.output } ≡ y = cc in
          (cc, sym (ap (λ (a : SemanticAction). a.kind) c))
      then_inputs n (stopped r ordinal errors) p h =
          let k : stopped r ordinal errors ≡ done y q = unfold on in h in
          cc

      go : (z : Option ℕ) → on e (expect subpiece_size z e u)
          (λ size. λ e s. on e (sliced_inputs x.number size x.inputs e s) λ inputs. λ e s. done
          (record { kind = ActionKind.Op Operation.Copy; number = 0; inputs = inputs; output = x.output }) s) ≡ done y q
          → (q ≡ u) × (y.kind ≡ ActionKind.Op Operation.Copy)
      go none h = let k : stopped subpiece_size u.sizing.begun 0
          ≡ done y q = unfold expect on in h in cc
      go (some n) h = then_inputs n (sliced_inputs x.number n x.inputs e u) refl (unfold expect on in h)

-- what a finished list leaves
pub record AfterFinish (xs : List SemanticAction) (u : State) (ys : List SemanticAction) (q : State) : Type 0 where
  pub sizing : AfterFix (9 * length xs) u.sizing q.sizing
  pub length_same : length ys ≡ length xs
  pub built : (i : ℕ) → any (builds i) ys ≡ any (builds i) xs

module _ (e : Env) (s t : List ℕ) (holds : SizesHold s t e.section) (rest : List ℕ) (ts : List Temporary) (fit : Each SoundTmp ts)
  where
    abbrev Fixed : SemanticAction → Sizing → SemanticAction × Sizing
    Fixed x z = sizes.fix_operands e.section x z

    operands-after : (x : SemanticAction) (z : Sizing) → z.temporaries ≡ ts → SoundAction e.section (length ts) x → length x.inputs ≤ 8
        → AfterFix 9 z (Fixed x z).1
    unfolding sizes.fix_operands
    operands-after x z same f few =
        let a = inputs-after s t e.section holds rest ts fit x.inputs z same f.inputs in
        let b = output-after s t e.section holds rest ts fit x.output (sizes.fix_inputs e.section x.inputs z).1
        (a.temporaries ∙ same) f.output in
        record { temporaries = b.temporaries ∙ a.temporaries; begun = b.begun ∙ a.begun; errors = omega (arith, a.errors, b.errors) }

    operands-sound : (x : SemanticAction) (z : Sizing) → z.temporaries ≡ ts → SoundAction e.section (length ts) x
        → SoundAction e.section (length ts) (Fixed x z).0
    unfolding sizes.fix_operands
    operands-sound x z same f =
        let a = inputs-after s t e.section holds rest ts fit x.inputs z same f.inputs in
        record {
          inputs = inputs-sound s t e.section holds rest ts fit x.inputs z same f.inputs;
          output = output-sound s t e.section holds rest ts fit x.output (sizes.fix_inputs e.section x.inputs z).1
              (a.temporaries ∙ same) f.output;
        }

    module _ (u : State) (same : u.sizing.temporaries ≡ ts) (x : SemanticAction) (f : Finishable e.section (length ts) x) where
      -- in the middle of the list
      module _ (room : length u.sizing.errors + 9 < 2 ^ 64) (pre post : List ℕ) (at0 : ℕ) (begins : length pre ≡ at0) where
        op-finished : (op : Operation) → x.kind ≡ ActionKind.Op op
            → seen_end (then_l (listed (enc_z (Fixed x u.sizing).1) (words_of pre post (Fixed x u.sizing).0))
            (λ y b. finish_fixed b at0 y)) ≡ ending (words_of pre post) (d.finish_op (some op) x e u)
        unfolding then_l d.finish_op on sizes.fix_operands
        op-finished op k =
            let g = operands-sound x u.sizing same f.sound in
            rw k (fixed_is pre post at0 begins op x.number e.section (length ts) e (with_sizing (Fixed x u.sizing).1 u)
            (sizes.fix_inputs e.section x.inputs u.sizing).0
            (sizes.fix_output e.section x.output (sizes.fix_inputs e.section x.inputs u.sizing).1).0
            (record { inputs = g.inputs; output = g.output })
            (λ b. piece_fixed e.section x.number x.inputs x.output u.sizing
            (sizes.fix_inputs e.section x.inputs u.sizing).1 (f.piece op k b)))

        by_kind : (k : ActionKind) → x.kind ≡ k
            → seen_end (when eqb (action_kind_number k) 0 then then_l
            (fix_operands s t (words_of pre post x) (temporaries_in rest ts) at0 (pointer_size e.section) (enc_z u.sizing))
            (λ y b. finish_fixed b at0 y) else listed (finished 0 (enc_z u.sizing)) (words_of pre post x))
            ≡ ending (words_of pre post) (d.finish_op (operation_of k) x e u)
        unfolding action_kind_number operation_of
        by_kind (ActionKind.Op op) k = rw (operands-fixed s t e.section holds rest ts fit pre post at0 begins x op u.sizing k
            f.few same f.sound room) (op-finished op k)
        by_kind ActionKind.AddressOf k = unfold seen_end ending d.finish_op in refl
        by_kind ActionKind.LoadRegister k = unfold seen_end ending d.finish_op in refl
        by_kind ActionKind.StoreRegister k = unfold seen_end ending d.finish_op in refl
        by_kind ActionKind.DelaySlot k = unfold seen_end ending d.finish_op in refl
        by_kind ActionKind.Build k = unfold seen_end ending d.finish_op in refl

        pub finish-op_is : seen_end (finish_op s t (words_of pre post x) (temporaries_in rest ts) at0 (pointer_size e.section)
            (enc_z u.sizing)) ≡ ending (words_of pre post) (d.finish_op (operation_of x.kind) x e u)
        unfolding finish_op
        finish-op_is =
            let a : get_or (words_of pre post x) (at0 + 0) 0
            ≡ action_kind_number x.kind = get_in pre (action_words x) post at0 begins 0 (rw (action_length x) (omega arith))
            ∙ rw (words_of_lem x) in
            rw a (by_kind x.kind refl)

      -- what a finished action leaves
      op-done : (op : Operation) (b : Bool) (y : SemanticAction) (q : State) → x.kind ≡ ActionKind.Op op
          → definition.when◌then◌else◌ b (d.subpiece_copy (Fixed x u.sizing).0) (λ e s. done (Fixed x u.sizing).0 s) e
          (with_sizing (Fixed x u.sizing).1 u) ≡ done y q
          → AfterFix 9 u.sizing q.sizing × ((i : ℕ) → builds i y ≡ builds i x)
      unfolding base_opens builds is_build
      op-done op true y q k h =
          let c = copy_done e (with_sizing (Fixed x u.sizing).1 u) (Fixed x u.sizing).0 y q h in
          (rw c.0 (operands-after x u.sizing same f.sound f.few), λ i. rw (c.1, k))
      op-done op false y q k h =
          let c : (Fixed x u.sizing).0 ≡ y = cc in
          let g : q ≡ with_sizing (Fixed x u.sizing).1 u = cc in
          (rw g (operands-after x u.sizing same f.sound f.few), λ i. rw (← c) (unfold sizes.fix_operands in rw k))

      unchanged : (y : SemanticAction) (q : State) → done x u ≡ done y q
          → AfterFix 9 u.sizing q.sizing × ((i : ℕ) → builds i y ≡ builds i x)
      unchanged y q h = let a : y ≡ x = cc in let b : q ≡ u = cc in rw (a, b)
          (record { temporaries = refl; begun = refl; errors = omega arith }, λ i. refl)

      pub finish-op-done : (k : ActionKind) → x.kind ≡ k → (y : SemanticAction) (q : State) → d.finish_op (operation_of k) x e u ≡ done y q
          → AfterFix 9 u.sizing q.sizing × ((i : ℕ) → builds i y ≡ builds i x)
      unfolding operation_of d.finish_op on
      finish-op-done (ActionKind.Op op) k y q h = op-done op (is_op Operation.Subpiece op) y q k h
      finish-op-done ActionKind.AddressOf k y q h = unchanged y q h
      finish-op-done ActionKind.LoadRegister k y q h = unchanged y q h
      finish-op-done ActionKind.StoreRegister k y q h = unchanged y q h
      finish-op-done ActionKind.DelaySlot k y q h = unchanged y q h
      finish-op-done ActionKind.Build k y q h = unchanged y q h

    -- the list

    ending_same : {A : Type 0} (f g : A → List ℕ) → ((y : A) → f y ≡ g y) → (o : Outcome A) → ending f o ≡ ending g o
    unfolding ending
    ending_same f g h (done y s) = rw (h y)
    ending_same f g h (stopped r ordinal errors) = refl

    ending_more : {A B : Type 0} (f : A → List ℕ) (g : B → List ℕ) (c : A → B) → ((y : A) → f y ≡ g (c y)) → (o : Outcome A) → ending f o
        ≡ ending g (on e o λ y. λ e s. done (c y) s)
    unfolding ending on
    ending_more f g c h (done y s) = rw (h y)
    ending_more f g c h (stopped r ordinal errors) = refl

    module _ (front tail : List ℕ) (base : ℕ) (begins : length front ≡ base) (low : base < 4096) where
      finish_from_lem : (xs ps : List SemanticAction) (u : State) → length ps + length xs < 700000000000000000 → u.sizing.temporaries ≡ ts
          → Each (Finishable e.section (length ts)) xs → length u.sizing.errors + 9 * length xs < 2 ^ 64
          → seen_end (finish_from (length xs) (length ps) s t (actions_in front tail (ps ++ xs)) (temporaries_in rest ts) base
          (pointer_size e.section) (enc_z u.sizing)) ≡ ending (λ ys. actions_in front tail (ps ++ ys)) (d.finish_actions xs e u)
      unfolding finish_from d.finish_actions
      finish_from_lem [] ps u h same f r = unfold seen_end ending in refl
      finish_from_lem (x ∷ xs) ps u h same f r =
          bind_end e (λ y. actions_in front tail (ps ++ (y ∷ xs))) (λ ys. actions_in front tail (ps ++ ys))
          (finish_op s t (actions_in front tail (ps ++ (x ∷ xs))) (temporaries_in rest ts) (place base (length ps))
          (pointer_size e.section) (enc_z u.sizing))
          (d.finish_op (operation_of x.kind) x e u) _ _ here
          (λ y q k.
          let a = finish-op-done u same x f.0 x.kind refl y q k in
          let n : length (ps ++ (y ∷ [])) ≡ suc (length ps) = length-append ps (y ∷ []) ∙ omega arith in
          let i = finish_from_lem xs (ps ++ (y ∷ [])) q (rw n (omega arith)) (a.0.temporaries ∙ same) f.1 (omega (arith, a.0.errors)) in
          let j = rw (n, append_assoc ps (y ∷ []) xs) at i in
          j ∙ ending_more (λ ys. actions_in front tail ((ps ++ (y ∷ [])) ++ ys)) (λ ys. actions_in front tail (ps ++ ys)) (λ bs. y ∷ bs)
          (λ ys. rw (append_assoc ps (y ∷ []) ys)) (d.finish_actions xs e q))
        where
          post : List ℕ
          post = list_words xs ++ drop (24 * (length ps + suc (length xs))) tail

          here : seen_end (finish_op s t (actions_in front tail (ps ++ (x ∷ xs))) (temporaries_in rest ts) (place base (length ps))
              (pointer_size e.section) (enc_z u.sizing))
              ≡ ending (λ y. actions_in front tail (ps ++ (y ∷ xs))) (d.finish_op (operation_of x.kind) x e u)
          here = rw (place_is base (length ps) low (omega arith), list_between front tail ps x xs)
              (finish-op_is u same x f.0 (omega arith) (front ++ list_words ps) post (base + 24 * length ps)
              (focus_at front tail ps base begins)
              ∙ ending_same (words_of (front ++ list_words ps) post) (λ y. actions_in front tail (ps ++ (y ∷ xs)))
              (λ y. sym (list_between front tail ps y xs)) (d.finish_op (operation_of x.kind) x e u))

      pub finish_is : (xs : List SemanticAction) (u : State) → length xs < 700000000000000000 → u.sizing.temporaries ≡ ts
          → Each (Finishable e.section (length ts)) xs → length u.sizing.errors + 9 * length xs < 2 ^ 64
          → seen_end (finish_actions s t (actions_in front tail xs) (temporaries_in rest ts) base (length xs) (pointer_size e.section)
          (enc_z u.sizing)) ≡ ending (actions_in front tail) (d.finish_actions xs e u)
      unfolding finish_actions
      finish_is xs u h same f r = finish_from_lem xs [] u (omega arith) same f r

    pub finish-done : (xs : List SemanticAction) (u : State) → u.sizing.temporaries ≡ ts → Each (Finishable e.section (length ts)) xs
        → (ys : List SemanticAction) (q : State) → d.finish_actions xs e u ≡ done ys q → AfterFinish xs u ys q
    unfolding d.finish_actions any
    finish-done [] u same f ys q h =
        let a : ys ≡ [] = cc in
        let b : q ≡ u = cc in
        rw (a, b) (record {
          sizing = record { temporaries = refl; begun = refl; errors = omega arith };
          length_same = refl;
          built = λ i. refl;
        })
    finish-done (x ∷ xs) u same f ys q h = go (d.finish_op (operation_of x.kind) x e u) refl h (λ y r g. finish-done xs r g f.1)
      where
        then_rest : (y : SemanticAction) (r : State) → AfterFix 9 u.sizing r.sizing → ((i : ℕ) → builds i y ≡ builds i x)
            → (o : Outcome (List SemanticAction)) → d.finish_actions xs e r ≡ o
            → ((zs : List SemanticAction) (w : State) → d.finish_actions xs e r ≡ done zs w → AfterFinish xs r zs w)
            → on e o (λ bs. λ e s. done (y ∷ bs) s) ≡ done ys q → AfterFinish (x ∷ xs) u ys q
        then_rest y r a b (done zs w) p rec h =
            let k : done (y ∷ zs) w ≡ done ys q = unfold on in h in
            let c : ys ≡ y ∷ zs = cc in
            let g : q ≡ w = cc in
            let t = rec zs w p in
            rw (c, g) (record {
              sizing = record {
                temporaries = t.sizing.temporaries ∙ a.temporaries;
                begun = t.sizing.begun
                    ∙ a.begun;
                errors = omega (arith, a.errors, t.sizing.errors);
              };
              length_same = ap suc t.length_same;
              built = λ i. rw (b i, t.built i);
            })
        then_rest y r a b (stopped m ordinal errors) p rec h = let k : stopped m ordinal errors
            ≡ done ys q = unfold on in h in cc

        go : (o : Outcome SemanticAction) → d.finish_op (operation_of x.kind) x e u ≡ o
            → on e o (λ b. λ e s. on e (d.finish_actions xs e s) λ bs. λ e s. done (b ∷ bs) s) ≡ done ys q
            → ((y : SemanticAction) (r : State) → r.sizing.temporaries ≡ ts → (zs : List SemanticAction) (w : State)
            → d.finish_actions xs e r ≡ done zs w → AfterFinish xs r zs w) → AfterFinish (x ∷ xs) u ys q
        go (done y r) p h rec =
            let a = finish-op-done u same x f.0 x.kind refl y r p in
            then_rest y r a.0 a.1 (d.finish_actions xs e r) refl (rec y r (a.0.temporaries ∙ same)) (unfold on in h)
        go (stopped m ordinal errors) p h rec = let k : stopped m ordinal errors
            ≡ done ys q = unfold on in h in cc
