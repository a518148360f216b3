-- The sizes fixed at the end: a value's, and those of an action's inputs and output, within its words.
use Prim.Native.Nat.{ℕ, suc, ◌+◌, ◌-◌, ◌*◌, ◌%◌, ◌^◌, ◌≤◌, ◌<◌}
use mathlib.Core.Path.{◌≡◌, refl, ◌∙◌, ap}
use mathlib.Core.Bool.{Bool, true, false}
use mathlib.Core.List.{List, [], ◌∷◌, ◌++◌, append_assoc}
use mathlib.Core.Option.{Option, none, some}
use native.Mathlib.Omega.{arith}
use lib.ListN.{length, get_or, set, length-append}
use lib.Seq.{set_at, get_or_at}
use lib.Dec.{eqb}
use borrow.Author.Tests.{ne_eqb}
use Rattle.prelude.specs.Base as definition
use Rattle.prelude.specs.Base.{◌or◌, or_else, when◌then◌else◌}
use Rattle.definition.specs.Operations.{Operation}
use Rattle.definition.specs.Value.{kind_number, Value, ActionKind, SemanticAction, operation_of, Temporary}
use Rattle.definition.specs.Ast.{Section}
use Rattle.definition.specs.Sizes as d
use Rattle.definition.specs.Sizes.{Sizing, pointer_size, fallback_size}
use Rattle.definition.specs.ActionList.{or_none, value_words, input_words, action_kind_number, operation_word, filled, action_words}
use Rattle.definition.proofs.Openers.{base_opens}
use Rattle.list_end.specs.Outcomes.{Fixed}
use Rattle.list_values.specs.Base.{listed, then_l}
use Rattle.access.specs.Loops.{run}
use Rattle.list_values.specs.Values.{value_at, put_value, with_size}
use Rattle.list_values.specs.Sizes.{error, falls_back}
use Rattle.list_end.specs.End.{fixed, fix_size, put_fixed, fix_operand, fix_input, fix_inputs, fix_output, fix_operands}
use Rattle.list_refinement.specs.Encoding.{enc_v, packed, temporaries_in, enc_z, Sound, SoundTmp, Each, EachOption, SoundAction, SizesHold}
use Rattle.list_refinement.proofs.Framing.{get_in}
use Rattle.list_refinement.proofs.Operands.{word_is, value_back, words_of_lem, out_number, out_word, action_length}
use Rattle.list_refinement.proofs.Settled.{size_is, known_small, error_is}
use Rattle.list_refinement.proofs.Focus.{words_of}
use Rattle.list_refinement.proofs.Shares.{falls_is}
use Rattle.definition_guarantee.proofs.Words.{kind_small}
pub use Rattle.definition_guarantee.proofs.Words.{filled_append}

-- what fixing leaves: the temporaries as they were, and an error more at most
pub record AfterFix (cost : ℕ) (z y : Sizing) : Type 0 where
  pub temporaries : y.temporaries ≡ z.temporaries
  pub begun : y.begun ≡ z.begun
  pub errors : length y.errors ≤ length z.errors + cost

module _ (s t : List ℕ) (sec : Section) (holds : SizesHold s t sec) (rest : List ℕ) (ts : List Temporary) (fit : Each SoundTmp ts)
  where
    abbrev M : List ℕ
    M = temporaries_in rest ts

    -- a value
    module _ (z : Sizing) (same : z.temporaries ≡ ts) (v : Value) (sound : Sound sec (length ts) v) where
      abbrev fixed_as : Value × Sizing → Fixed
      fixed_as r = record { v = enc_v r.0; z = enc_z r.1 }

      by_size : (a : Option ℕ) (b : Bool) → or_else 0 a < 65535 → length z.errors + 1 < 2 ^ 64
          → (when eqb (or_none a) 65535 then (when b then fixed (with_size (pointer_size sec) (enc_v v)) (enc_z z) else fixed (enc_v v)
          (error (enc_z z))) else fixed (with_size (or_none a) (enc_v v)) (enc_z z))
          ≡ fixed_as (d.fix_to sec v (a or definition.when◌then◌else◌ b (some (pointer_size sec)) none) z)
      unfolding or_none or_else d.fix_to base_opens
      by_size none true h r = refl
      by_size none false h r = rw (error_is z r)
      by_size (some n) b h r = rw (ne_eqb n 65535 (λ e. omega arith))

      final_is : (d.size_of sec z.temporaries v or fallback_size sec v)
          ≡ (d.size_of sec ts v or definition.when◌then◌else◌ (falls_back (enc_v v)) (some (pointer_size sec)) none)
      final_is = rw (same, falls_is sec v)

      pub fix_is : length z.errors + 1 < 2 ^ 64 → fix_size s t M (enc_v v) (pointer_size sec) (enc_z z) ≡ fixed_as (d.fix_size sec v z)
      unfolding fix_size d.fix_size
      fix_is r = rw (final_is, size_is s t sec holds rest ts fit v sound)
          (by_size (d.size_of sec ts v) (falls_back (enc_v v)) (known_small s t sec holds rest ts fit v sound) r)

      fixed-after : (a : Option ℕ) → AfterFix 1 z (d.fix_to sec v a z).1
      unfolding d.fix_to
      fixed-after none = record { temporaries = refl; begun = refl; errors = rw (length-append z.errors (z.begun ∷ [])) (omega arith) }
      fixed-after (some n) = record { temporaries = refl; begun = refl; errors = omega arith }

      pub fix_after : AfterFix 1 z (d.fix_size sec v z).1
      unfolding d.fix_size
      fix_after = fixed-after _

      fixed-sound : (a : Option ℕ) → or_else 0 a < 65535 → Sound sec (length ts) (d.fix_to sec v a z).0
      unfolding d.fix_to or_else
      fixed-sound none h = sound
      fixed-sound (some n) h = record { number = sound.number; offset = sound.offset; size = h }

      final_small : (a : Option ℕ) (b : Bool) → or_else 0 a < 65535
          → or_else 0 (a or definition.when◌then◌else◌ b (some (pointer_size sec)) none) < 65535
      unfolding or_else base_opens
      final_small none true h = holds.pointer_small
      final_small none false h = omega arith
      final_small (some n) b h = h

      pub fix_sound : Sound sec (length ts) (d.fix_size sec v z).0
      unfolding d.fix_size
      fix_sound = fixed-sound _ (rw (same, falls_is sec v)
          (final_small (d.size_of sec ts v) (falls_back (enc_v v)) (known_small s t sec holds rest ts fit v sound)))

-- two words of a value within a list

module _ (p q : List ℕ) (at i : ℕ) (begins : length p ≡ at + i) where
  next : (a : ℕ) → length (p ++ (a ∷ [])) ≡ at + (i + 1)
  next a = length-append p (a ∷ []) ∙ omega arith

  value_here : (v : Value) → v.offset ≤ 65535 → or_else 0 v.size < 65535 → value_at (p ++ (v.number ∷ packed v ∷ q)) at i ≡ enc_v v
  unfolding value_at
  value_here v h j =
      let e : get_or (p ++ (v.number ∷ packed v ∷ q)) (at + (i + 1)) 0
      ≡ packed v = rw (← append_assoc p (v.number ∷ []) (packed v ∷ q))
      (get_or_at (p ++ (v.number ∷ [])) (packed v) q 0 (at + (i + 1)) (next v.number)) in
      rw (get_or_at p v.number (packed v ∷ q) 0 (at + i) begins, e) (value_back v h j)

  put_here : (a b : ℕ) (v : Value) → v.offset ≤ 65535 → or_else 0 v.size < 65535 → put_value (p ++ (a ∷ b ∷ q)) at i (enc_v v)
      ≡ p ++ (v.number ∷ packed v ∷ q)
  unfolding put_value
  put_here a b v h j =
      let e : set (p ++ (v.number ∷ b ∷ q)) (at + (i + 1)) (packed v) ≡ p ++ (v.number ∷ packed v ∷ q) =
      rw (← append_assoc p (v.number ∷ []) (b ∷ q), ← append_assoc p (v.number ∷ []) (packed v ∷ q))
      (set_at (p ++ (v.number ∷ [])) b q (packed v) (at + (i + 1)) (next v.number)) in
      rw (set_at p a (b ∷ q) v.number (at + i) begins, word_is v h j) e

-- inputs, behind the first six words

input-words : (us vs : List Value) → input_words (us ++ vs) ≡ input_words us ++ input_words vs
unfolding input_words value_words
input-words [] vs = refl
input-words (u ∷ us) vs = ap (λ (l : List ℕ). u.number ∷ (kind_number u.kind + 256 * u.offset + 2 ^ 24 * or_none u.size) ∷ l)
    (input-words us vs)

input_length : (us : List Value) → length (input_words us) ≡ 2 * length us
unfolding input_words value_words
input_length [] = refl
input_length (u ∷ us) = omega (arith, input_length us)

-- an action with other inputs
abbrev pub with_inputs : List Value → SemanticAction → SemanticAction
with_inputs vs x = record { kind = x.kind; number = x.number; inputs = vs; output = x.output }

abbrev pub with_output : Option Value → SemanticAction → SemanticAction
with_output o x = record { kind = x.kind; number = x.number; inputs = x.inputs; output = o }

-- the words in front of an input, and those behind it
input_front : SemanticAction → ℕ → List Value → List ℕ
input_front x n us = action_kind_number x.kind ∷ operation_word (operation_of x.kind) ∷ x.number ∷ n ∷ out_number x.output ∷ out_word
    (operation_of x.kind) x.output ∷ input_words us

input_focus : (x : SemanticAction) (us vs : List Value) (v : Value) → length us + suc (length vs) ≤ 8
    → action_words (with_inputs (us ++ (v ∷ vs)) x) ≡ input_front x (length us + suc (length vs)) us
    ++ (v.number ∷ packed v ∷ filled (16 - 2 * length us) (input_words vs))
unfolding input_front input_words value_words filled packed
input_focus x us vs v h =
    let n : length (us ++ (v ∷ vs)) ≡ length us + suc (length vs) = length-append us (v ∷ vs) in
    let k : 18 - 2 * length us ≡ suc (suc (16 - 2 * length us)) = omega arith in
    let e : filled 18 (input_words us ++ input_words (v ∷ vs))
    ≡ input_words us ++ filled (18 - 2 * length us) (input_words (v ∷ vs)) = filled_append (input_words us) (input_words (v ∷ vs)) 18
    (18 - 2 * length us) (omega (arith, input_length us)) in
    rw (words_of_lem (with_inputs (us ++ (v ∷ vs)) x), n, input-words us (v ∷ vs), e, k)

front_length : (x : SemanticAction) (n : ℕ) (us : List Value) → length (input_front x n us) ≡ 6 + 2 * length us
unfolding input_front
front_length x n us = omega (arith, input_length us)

output_focus : (x : SemanticAction) (v : Value)
    → action_words (with_output (some v) x) ≡ (action_kind_number x.kind ∷ operation_word (operation_of x.kind) ∷ x.number ∷ length
    x.inputs ∷ []) ++ (v.number ∷ packed v ∷ filled 18 (input_words x.inputs))
unfolding out_number out_word
output_focus x v = rw (words_of_lem (with_output (some v) x))

-- the second word of no value
not_absent : (v : Value) → eqb (packed v) 255 ≡ false
unfolding packed
not_absent v = let k = kind_small v.kind in ne_eqb (packed v) 255 (λ e. omega arith)

fix_trans : {c e : ℕ} {z y w : Sizing} (f : ℕ) → c + e ≤ f → AfterFix c z y → AfterFix e y w → AfterFix f z w
fix_trans f h a b = record {
  temporaries = b.temporaries ∙ a.temporaries;
  begun = b.begun
      ∙ a.begun;
  errors = omega (arith, a.errors, b.errors);
}

module _ (s t : List ℕ) (sec : Section) (holds : SizesHold s t sec) (rest : List ℕ) (ts : List Temporary) (fit : Each SoundTmp ts)
  where
    pub inputs-after : (vs : List Value) (z : Sizing) → z.temporaries ≡ ts → Each (Sound sec (length ts)) vs
        → AfterFix (length vs) z (d.fix_inputs sec vs z).1
    unfolding d.fix_inputs
    inputs-after [] z e f = record { temporaries = refl; begun = refl; errors = omega arith }
    inputs-after (v ∷ vs) z e f =
        let a = fix_after s t sec holds rest ts fit z e v f.0 in
        fix_trans (suc (length vs)) (omega arith) a (inputs-after vs (d.fix_size sec v z).1 (a.temporaries ∙ e) f.1)

    pub inputs-sound : (vs : List Value) (z : Sizing) → z.temporaries ≡ ts → Each (Sound sec (length ts)) vs
        → Each (Sound sec (length ts)) (d.fix_inputs sec vs z).0
    unfolding d.fix_inputs
    inputs-sound [] z e f = tt
    inputs-sound (v ∷ vs) z e f =
        let a = fix_after s t sec holds rest ts fit z e v f.0 in
        (fix_sound s t sec holds rest ts fit z e v f.0, inputs-sound vs (d.fix_size sec v z).1 (a.temporaries ∙ e) f.1)

    pub inputs_length : (vs : List Value) (z : Sizing) → length (d.fix_inputs sec vs z).0 ≡ length vs
    unfolding d.fix_inputs
    inputs_length [] z = refl
    inputs_length (v ∷ vs) z = ap suc (inputs_length vs (d.fix_size sec v z).1)

    pub output-after : (y : Option Value) (z : Sizing) → z.temporaries ≡ ts → EachOption (Sound sec (length ts)) y
        → AfterFix 1 z (d.fix_output sec y z).1
    unfolding d.fix_output
    output-after none z e f = record { temporaries = refl; begun = refl; errors = omega arith }
    output-after (some v) z e f = fix_after s t sec holds rest ts fit z e v f

    pub output-sound : (y : Option Value) (z : Sizing) → z.temporaries ≡ ts → EachOption (Sound sec (length ts)) y
        → EachOption (Sound sec (length ts)) (d.fix_output sec y z).0
    unfolding d.fix_output
    output-sound none z e f = tt
    output-sound (some v) z e f = fix_sound s t sec holds rest ts fit z e v f

    -- within the list
    module _ (pre post : List ℕ) (place : ℕ) (begins : length pre ≡ place) where
      operand-fixed : (front back : List ℕ) (i : ℕ) (v : Value) (z : Sizing) → length front ≡ i → z.temporaries ≡ ts
          → Sound sec (length ts) v → length z.errors + 1 < 2 ^ 64
          → fix_operand s t (pre ++ ((front ++ (v.number ∷ packed v ∷ back)) ++ post)) (temporaries_in rest ts) place i (pointer_size sec)
          (enc_z z)
          ≡ listed (enc_z (d.fix_size sec v z).1) (pre ++ ((front
          ++ ((d.fix_size sec v z).0.number ∷ packed (d.fix_size sec v z).0 ∷ back)) ++ post))
      unfolding fix_operand put_fixed
      operand-fixed front back i v z e same f r =
          let n : length (pre ++ front) ≡ place + i = length-append pre front ∙ omega arith in
          let w = (d.fix_size sec v z).0 in
          let g = fix_sound s t sec holds rest ts fit z same v f in
          let flat : (a b : ℕ) → pre ++ ((front ++ (a ∷ b ∷ back)) ++ post)
          ≡ (pre ++ front) ++ (a ∷ b ∷ (back ++ post)) = λ a b. simp append_assoc in
          rw (
            flat v.number (packed v),
            flat w.number (packed w),
            value_here (pre ++ front) (back ++ post) place i n v f.offset f.size,
            fix_is s t sec holds rest ts fit z same v f r,
          )
          (ap (listed (enc_z (d.fix_size sec v z).1)) (put_here (pre ++ front) (back ++ post) place i n v.number (packed v) w g.offset
          g.size))

      inputs_from_lem : (x : SemanticAction) (vs us : List Value) (z : Sizing) → length us + length vs ≤ 8 → z.temporaries ≡ ts
          → Each (Sound sec (length ts)) vs → length z.errors + length vs < 2 ^ 64
          → run (length vs) (length us) (fix_input s t (temporaries_in rest ts) place (pointer_size sec))
          (listed (enc_z z) (words_of pre post (with_inputs (us ++ vs) x)))
          ≡ listed (enc_z (d.fix_inputs sec vs z).1) (words_of pre post (with_inputs (us ++ (d.fix_inputs sec vs z).0) x))
      unfolding run d.fix_inputs
      inputs_from_lem x [] us z h same f r = refl
      inputs_from_lem x (v ∷ vs) us z h same f r =
          let w = (d.fix_size sec v z).0 in
          let a = fix_after s t sec holds rest ts fit z same v f.0 in
          let n : length (us ++ (w ∷ [])) ≡ suc (length us) = length-append us (w ∷ []) ∙ omega arith in
          let i = inputs_from_lem x vs (us ++ (w ∷ [])) (d.fix_size sec v z).1 (rw n (omega arith)) (a.temporaries ∙ same) f.1
          (omega (arith, a.errors)) in
          ap (run (length vs) (suc (length us)) (fix_input s t (temporaries_in rest ts) place (pointer_size sec)))
          (step x vs us v z h same f.0 (omega arith))
          ∙ (rw (n, append_assoc us (w ∷ []) vs, append_assoc us (w ∷ []) (d.fix_inputs sec vs (d.fix_size sec v z).1).0) at i)
        where
          step : (x : SemanticAction) (vs us : List Value) (v : Value) (z : Sizing) → length us + suc (length vs) ≤ 8 → z.temporaries ≡ ts
              → Sound sec (length ts) v → length z.errors + 1 < 2 ^ 64
              → fix_input s t (temporaries_in rest ts) place (pointer_size sec) (length us)
              (listed (enc_z z) (words_of pre post (with_inputs (us ++ (v ∷ vs)) x)))
              ≡ listed (enc_z (d.fix_size sec v z).1) (words_of pre post (with_inputs (us ++ ((d.fix_size sec v z).0 ∷ vs)) x))
          step x vs us v z h same f r = unfold fix_input then_l in
              rw (input_focus x us vs v h, input_focus x us vs (d.fix_size sec v z).0 h)
              (operand-fixed (input_front x (length us + suc (length vs)) us) (filled (16 - 2 * length us) (input_words vs))
              (6 + length us % 8 * 2) v z (front_length x (length us + suc (length vs)) us ∙ omega arith) same f r)

      -- an action of a kind, as it is fixed
      word_at : (x : SemanticAction) (i : ℕ) → i < 24 → get_or (words_of pre post x) (place + i) 0 ≡ get_or (action_words x) i 0
      word_at x i h = get_in pre (action_words x) post place begins i (rw (action_length x) h)

      output-fixed : (x : SemanticAction) (op : Operation) (y : Option Value) (z : Sizing) → x.kind ≡ ActionKind.Op op → z.temporaries ≡ ts
          → EachOption (Sound sec (length ts)) y → length z.errors + 1 < 2 ^ 64
          → fix_output s t (words_of pre post (with_output y x)) (temporaries_in rest ts) place (pointer_size sec) (enc_z z)
          ≡ listed (enc_z (d.fix_output sec y z).1) (words_of pre post (with_output (d.fix_output sec y z).0 x))
      unfolding fix_output d.fix_output
      output-fixed x op none z k same f r =
          let e : get_or (words_of pre post (with_output none x)) (place + 5) 0 ≡ 255 = word_at (with_output none x) 5 (omega arith)
          ∙ rw (words_of_lem (with_output none x)) (rw k (unfold operation_of out_word in refl)) in
          rw e (refl)
      output-fixed x op (some v) z k same f r =
          let e : get_or (words_of pre post (with_output (some v) x)) (place + 5) 0 ≡ packed v = word_at (with_output (some v) x) 5 (omega arith)
          ∙ rw (words_of_lem (with_output (some v) x)) (unfold out_word in refl) in
          rw (e, not_absent v)
          (rw (output_focus x v, output_focus x (d.fix_size sec v z).0)
          (operand-fixed (action_kind_number x.kind ∷ operation_word (operation_of x.kind) ∷ x.number ∷ length x.inputs ∷ [])
          (filled 18 (input_words x.inputs)) 4 v z refl same f r))

      pub operands-fixed : (x : SemanticAction) (op : Operation) (z : Sizing) → x.kind ≡ ActionKind.Op op → length x.inputs ≤ 8
          → z.temporaries ≡ ts → SoundAction sec (length ts) x → length z.errors + 9 < 2 ^ 64
          → fix_operands s t (words_of pre post x) (temporaries_in rest ts) place (pointer_size sec) (enc_z z)
          ≡ listed (enc_z (d.fix_operands sec x z).1) (words_of pre post (d.fix_operands sec x z).0)
      unfolding fix_operands fix_inputs d.fix_operands
      operands-fixed x op z k few same f r =
          let a = inputs-after x.inputs z same f.inputs in
          let e : get_or (words_of pre post x) (place + 3) 0 % 16
          ≡ length x.inputs = rw (word_at x 3 (omega arith), words_of_lem x) (omega arith) in
          rw (e, inputs_from_lem x x.inputs [] z (omega arith) same f.inputs (omega arith))
          (unfold then_l in output-fixed (with_inputs (d.fix_inputs sec x.inputs z).0 x) op x.output
          (d.fix_inputs sec x.inputs z).1 k (a.temporaries ∙ same) f.output (omega (arith, a.errors)))
