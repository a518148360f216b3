-- Temporaries and pushes: what the words answer is what the definition answers.
use Rattle.std.proofs.lemmas.Bool.Decides.{nat_tests}
use Rattle.std.proofs.lemmas.List.{map-append, length-map}
use Prim.Native.Nat.{ℕ, suc, ◌+◌, ◌*◌, ◌^◌, ◌≤◌, ◌<◌, min}
use mathlib.Core.Path.{◌≡◌, refl, sym, ◌∙◌, ap, subst}
use mathlib.Core.Bool.{Bool, true, false}
use mathlib.Core.List.{List, [], ◌∷◌, ◌++◌, map, append_assoc}
use mathlib.Core.Option.{Option, none, some}
use native.Mathlib.Omega.{arith}
use lib.ListN.{length, get_or, set, drop, length-append, length-drop}
use lib.Seq.{set_at, drop-cons}
use lib.Dec.{leb, ltb}
use borrow.Author.Tests.{le-leb, lt-leb, ltb-true, leb-true, leb-false}
use Rattle.prelude.specs.Base.{or_else, is_some, when◌then◌else◌}
use Rattle.definition.specs.Refusals.{refusal_number, list_full, too_many_temporaries}
use Rattle.definition.specs.Operations.{Operation, operation_number}
use Rattle.definition.specs.Value.{Kind, kind_number, Value, local, ActionKind, SemanticAction, operation_of, Temporary}
use Rattle.definition.specs.Ast.{Section}
use Rattle.definition.specs.Sizes as sizes
use Rattle.definition.specs.Sizes.{out, at, Sizing, with_temporaries, pointer_size}
use Rattle.definition.specs.Walk as d
use Rattle.definition.specs.Walk.{State, Env, Outcome, done, stopped, on, require, with_sizing, with_action}
use Rattle.definition.specs.ActionList.{or_none, list_words, temporary_word, action_kind_number, operation_word}
use Rattle.definition_guarantee.proofs.Tests.{each_more}
use Rattle.list_values.specs.declared.value.Value.{Value as WordValue}
use Rattle.list_pushes.specs.declared.push.Env.{Env as WordEnv}
use Rattle.list_pushes.specs.Outcomes.{Read}
use Rattle.list_pushes.specs.Outcomes.{Pushed}
use Rattle.list_values.specs.Base.{listed}
use Rattle.list_values.specs.Values.{value_at}
use Rattle.list_values.specs.Sizes.{sized, then_s}
use Rattle.list_pushes.specs.Rules.{update_operand_sizes}
use Rattle.list_pushes.specs.Pushes.{read, pushed, on_push, on_state, tmp_word, add_tmp, output_or, write, push, update_last, push_op, op_to, op}
use Rattle.list_refinement.specs.Encoding.{enc_v, actions_in, temporaries_in, enc_z, enc_s, Within, Sound, SoundTmp, Each, EachOption, SoundAction, SizesHold, first_of, second_of, output_of, Lent}
use Rattle.list_refinement.proofs.Operands.{size_word}
use Rattle.list_refinement.proofs.Settled.{Ready, present}
use Rattle.list_refinement.proofs.Focus.{value_of, words_of}
use Rattle.list_refinement.proofs.After.{After, after_ready}
use Rattle.list_refinement.proofs.Rules.{update_is, Ruled, ruled-after, updated_after}
use Rattle.list_refinement.proofs.Lists.{list_length, list_focus, focus_at, write-action}
use Rattle.list_refinement.proofs.Seen.{bind_tmp, bind_pushed, yes, seen_read, seen_pushed, seen_tmp, seen_push, outcome, outcome_map}
use Rattle.list_refinement.specs.RuleKinds.{kind_of, Operands}

-- temporaries

pub tmps_length : (rest : List ℕ) (ts : List Temporary) → length ts ≤ length rest → length (temporaries_in rest ts) ≡ length rest
tmps_length rest ts h = length-append (map temporary_word ts) (drop (length ts) rest)
    ∙ rw (length-map ts temporary_word, length-drop (length ts) rest) (omega arith)

tmp-word : (name size : Option ℕ) → or_none name ≤ 65535 → or_else 0 size < 65535 → tmp_word (or_none name) (or_none size)
    ≡ temporary_word (record { name = name; size = size })
unfolding tmp_word temporary_word
tmp-word name size h j = let k = size_word size j in omega arith

module _ (rest : List ℕ) (ts : List Temporary) (t : Temporary) where
  tmp_written : length ts < length rest → set (temporaries_in rest ts) (length ts) (temporary_word t) ≡ temporaries_in rest (ts ++ (t ∷ []))
  tmp_written h =
      let c : length (ts ++ (t ∷ [])) ≡ suc (length ts) = length-append ts (t ∷ []) ∙ omega arith in
      rw (
        drop-cons rest (length ts) 0 h,
        set_at (map temporary_word ts) (get_or rest (length ts) 0) (drop (suc (length ts)) rest) (temporary_word t) (length ts) (length-map ts temporary_word),
        map-append temporary_word ts (t ∷ []),
        c,
      )
      (sym (append_assoc (map temporary_word ts) (temporary_word t ∷ []) (drop (suc (length ts)) rest)))

-- A state that the lent words hold.
pub record Stands (tail rest : List ℕ) (s : State) : Type 0 where
  pub actions : 24 * length s.actions ≤ length tail
  pub temporaries : length s.sizing.temporaries ≤ length rest
  pub sizes : Each SoundTmp s.sizing.temporaries

-- the value that stands for an output that may be given
abbrev pub IsGiven : Option Value → WordValue → Type 0
IsGiven none v = Unit {0}
IsGiven (some u) v = v ≡ enc_v u

tmp_test : (n k : ℕ) → leb (n + 1) (min k 512) ≡ (when ltb n k then ltb n 512 else false)
tmp_test n k = grind (arith, nat_tests)

module _ (e : Env) (s : State) (front tail rest : List ℕ) (lent : Lent e front tail rest) (stands : Stands tail rest s) where
  abbrev ts : List Temporary
  ts = s.sizing.temporaries

  -- a temporary
  module _ (name size : Option ℕ) (small : or_none name ≤ 65535) (fits : or_else 0 size < 65535) where
    abbrev made : Temporary
    made = record { name = name; size = size }

    add_is : seen_tmp (actions_in front tail s.actions) (add_tmp (temporaries_in rest ts) (or_none name) (or_none size)
        (enc_s (length front) s)) ≡ outcome front tail rest enc_v (d.add_tmp name size e s)
    unfolding add_tmp d.add_tmp on
    add_is = rw (tmps_length rest ts stands.temporaries, tmp-word name size small fits, room_test)
        (go (ltb (length ts) (length rest)) (ltb (length ts) 512) refl)
      where
        room_test : leb (length ts + 1) e.temporary_room
            ≡ (when ltb (length ts) (length rest) then ltb (length ts) 512 else false)
        room_test = rw lent.temporary_room (tmp_test (length ts) (length rest))

        count : length ts + 1 ≡ length (ts ++ (made ∷ []))
        count = sym (length-append ts (made ∷ []))

        go : (b c : Bool) → ltb (length ts) (length rest) ≡ b
            → seen_tmp (actions_in front tail s.actions)
            (when b then (when c then listed (Read.Value (record { kind = 6; number = length ts; offset = 0; size = 65535 })
            (record { end = length front + 24 * length s.actions; temporaries = length ts + 1; sizing = enc_z s.sizing }))
            (set (temporaries_in rest ts) (length ts) (temporary_word made)) else listed (Read.No 13)
            (temporaries_in rest ts)) else listed (Read.No 13) (temporaries_in rest ts))
            ≡ outcome front tail rest enc_v (on e (require (when b then c else false) too_many_temporaries e s) λ _. λ e s0. on e
            (done (tt {0}) (with_sizing (with_temporaries (ts ++ (made ∷ [])) s.sizing) s0)) λ _. λ e s1. done
            (local Kind.PcodeTmp (length ts)) s1)
        go true true p = unfold require seen_tmp outcome kind_number or_none or_else in (λ i.
            yes (record { kind = 6; number = length ts; offset = 0; size = 65535 })
            (record { end = length front + 24 * length s.actions; temporaries = count i; sizing = enc_z s.sizing })
            (actions_in front tail s.actions)
            (tmp_written rest ts made (ltb-true (length ts) (length rest) p) i))
        go true false p = unfold require seen_tmp outcome refusal_number in refl
        go false c p = unfold require seen_tmp outcome refusal_number in refl

  pub named_is : (name : ℕ) (size : Option ℕ) → name ≤ 65535 → or_else 0 size < 65535
      → seen_tmp (actions_in front tail s.actions) (add_tmp (temporaries_in rest ts) name (or_none size) (enc_s (length front) s))
      ≡ outcome front tail rest enc_v (d.add_tmp (some name) size e s)
  unfolding or_none or_else
  named_is name size h j = add_is (some name) size h j

  pub unnamed_is : (size : Option ℕ) → or_else 0 size < 65535
      → seen_tmp (actions_in front tail s.actions) (add_tmp (temporaries_in rest ts) 65535 (or_none size) (enc_s (length front) s))
      ≡ outcome front tail rest enc_v (d.add_tmp none size e s)
  unfolding or_none or_else
  unnamed_is size j = add_is none size (omega arith) j

  -- the output given, else a fresh temporary
  pub output_is : (size : Option ℕ) (to : Option Value) (v : WordValue) → or_else 0 size < 65535 → IsGiven to v
      → seen_tmp (actions_in front tail s.actions) (output_or (temporaries_in rest ts) (is_some to) v (or_none size)
      (enc_s (length front) s)) ≡ outcome front tail rest enc_v (d.output_or size to e s)
  unfolding output_or d.output_or is_some
  output_is size (some u) v j g = unfold seen_tmp outcome in rw g
  output_is size none v j g = unnamed_is size j

  -- pushes

  list-long : length (actions_in front tail s.actions) ≡ length front + length tail
  list-long = length-append front (list_words s.actions ++ drop (24 * length s.actions) tail)
      ∙ rw (
        length-append (list_words s.actions) (drop (24 * length s.actions) tail),
        list_length s.actions,
        length-drop
            (24 * length s.actions) tail,
      ) (omega (arith, stands.actions))

  pub push_test : leb (length front + 24 * length s.actions + 24) (length (actions_in front tail s.actions))
      ≡ leb (length s.actions + 1 + length e.section.subtables) e.action_room
  push_test = rw list-long (go (leb (length front + 24 * length s.actions + 24) (length front + length tail)) refl)
    where
      go : (b : Bool) → leb (length front + 24 * length s.actions + 24) (length front + length tail) ≡ b → b
          ≡ leb (length s.actions + 1 + length e.section.subtables) e.action_room
      go true p = let h = leb-true (length front + 24 * length s.actions + 24) (length front + length tail) p in sym
          (le-leb (length s.actions + 1 + length e.section.subtables) e.action_room
          (omega (arith, lent.builds, lent.action_room)))
      go false p = let h = leb-false (length front + 24 * length s.actions + 24) (length front + length tail) p in sym
          (lt-leb (length s.actions + 1 + length e.section.subtables) e.action_room
          (omega (arith, lent.builds, lent.action_room)))

  push_room : leb (length s.actions + 1 + length e.section.subtables) e.action_room ≡ true
      → 24 * length s.actions + 24 ≤ length tail
  push_room p = let h = leb-true (length s.actions + 1 + length e.section.subtables) e.action_room p in omega
      (arith, lent.builds, lent.action_room)

  end_more : (x : SemanticAction) → length front + 24 * length s.actions + 24 ≡ length front + 24 * length (s.actions ++ (x ∷ []))
  end_more x = rw (length-append s.actions (x ∷ [])) (omega arith)

  -- an action of any kind with at most two inputs
  pub push_is : (n : ℕ) (x : SemanticAction) → length x.inputs ≤ 2 → SoundAction e.section n x
      → seen_push (temporaries_in rest ts) (push (actions_in front tail s.actions) (action_kind_number x.kind)
      (operation_word (operation_of x.kind)) x.number (length x.inputs) (output_of (operation_of x.kind) x.output)
      (first_of x.inputs) (second_of x.inputs) (enc_s (length front) s))
      ≡ outcome front tail rest (λ _. tt) (d.push x e s)
  unfolding push d.push on
  push_is n x few f = rw push_test (go (leb (length s.actions + 1 + length e.section.subtables) e.action_room) refl)
    where
      go : (b : Bool) → leb (length s.actions + 1 + length e.section.subtables) e.action_room ≡ b
          → seen_push (temporaries_in rest ts)
          (when b then listed (Pushed.Done (record {
            end = length front + 24 * length s.actions + 24;
            temporaries = length ts;
            sizing =
                enc_z s.sizing;
          }))
          (write (actions_in front tail s.actions) (length front + 24 * length s.actions) (action_kind_number x.kind)
          (operation_word (operation_of x.kind)) x.number (length x.inputs) (output_of (operation_of x.kind) x.output)
          (first_of x.inputs) (second_of x.inputs))
          else listed (Pushed.No 12) (actions_in front tail s.actions))
          ≡ outcome front tail rest (λ _. tt) (on e (require b list_full e s) λ _. λ e s0. done (tt {0}) (with_action x s0))
      go true p = unfold require seen_push outcome in (λ i.
          yes tt (record { end = end_more x i; temporaries = length ts; sizing = enc_z s.sizing })
          (write-action e.section n front tail s.actions x (length front) refl (push_room p) few f i)
          (temporaries_in rest ts))
      go false p = unfold require seen_push outcome refusal_number in refl

  pub push-done : (x : SemanticAction) (u : State) → d.push x e s ≡ done tt u → (u ≡ with_action x s) × Stands tail rest u
  unfolding d.push on
  push-done x u q = go (leb (length s.actions + 1 + length e.section.subtables) e.action_room) refl q
    where
      go : (b : Bool) → leb (length s.actions + 1 + length e.section.subtables) e.action_room ≡ b
          → on e (require b list_full e s) (λ _. λ e s0. done (tt {0}) (with_action x s0)) ≡ done (tt {0}) u
          → (u ≡ with_action x s) × Stands tail rest u
      go true p q =
          let h : done (tt {0}) (with_action x s) ≡ done (tt {0}) u = unfold require in q in
          let l : u ≡ with_action x s = cc in (
            l,
            rw l (record {
              actions = rw (length-append s.actions (x ∷ [])) (omega (arith, push_room p));
              temporaries =
                  stands.temporaries;
              sizes = stands.sizes;
            }),
          )
      go false p q = let h : stopped list_full s.sizing.begun 0
          ≡ done (tt {0}) u = unfold require in q in cc

  -- an operation, sized by its rule
  module _ (stream table : List ℕ) (holds : SizesHold stream table e.section) (we : WordEnv)
      (pointer_is : we.pointer ≡ pointer_size e.section)
      (operation : Operation) (number : ℕ) (inputs : List Value) (few : length inputs ≤ 2) where
    module _ (output : Option Value) where
      abbrev pushed_as : SemanticAction
      pushed_as = record { kind = ActionKind.Op operation; number = number; inputs = inputs; output = output }

      abbrev updated : SemanticAction × Sizing
      updated = sizes.update_operand_sizes e.section false pushed_as s.sizing

      snoc_focus : (x : SemanticAction) → actions_in front tail (s.actions ++ (x ∷ []))
          ≡ words_of (front ++ list_words s.actions) (drop (24 * length s.actions + 24) tail) x
      unfolding list_words
      snoc_focus x =
          let q : 24 * length (s.actions ++ (x ∷ [])) ≡ 24 * length s.actions + 24 = rw (length-append s.actions (x ∷ []))
          (omega arith) in
          rw (list_focus front tail s.actions x [], q)

      module _ (sound : SoundAction e.section (length ts) pushed_as) (operands : Operands (kind_of operation) pushed_as)
          (room : length s.sizing.errors + 3 < 2 ^ 64) where
        ready : Ready e.section 3 pushed_as s.sizing
        ready = record { action = sound; temporaries = stands.sizes; errors = room }

        pub update_after : After e.section 3 pushed_as s.sizing updated.0 updated.1
        update_after = updated_after stream table e.section holds false pushed_as s.sizing (sound, stands.sizes)

        last_is : update_operand_sizes stream table false (actions_in front tail (s.actions ++ (pushed_as ∷ []))) (temporaries_in rest ts)
            (length front + 24 * length s.actions) we.pointer (enc_z s.sizing)
            ≡ sized (enc_z updated.1) (actions_in front tail (s.actions ++ (updated.0 ∷ [])))
            (temporaries_in rest updated.1.temporaries)
        last_is = rw (pointer_is, snoc_focus pushed_as, snoc_focus updated.0)
            (update_is stream table e.section holds rest (front ++ list_words s.actions)
            (drop (24 * length s.actions + 24) tail) (length front + 24 * length s.actions)
            (focus_at front tail s.actions (length front) refl) false pushed_as s.sizing 0 ready operands)

        pub push-op_is : seen_pushed (push_op stream table (actions_in front tail s.actions) (temporaries_in rest ts) we
            (operation_number operation) number (length inputs) (output_of (some operation) output) (first_of inputs) (second_of inputs)
            (enc_s (length front) s))
            ≡ outcome front tail rest (λ _. tt) (d.push_op operation number inputs output e s)
        unfolding push_op push d.push_op d.push on
        push-op_is = rw push_test (go (leb (length s.actions + 1 + length e.section.subtables) e.action_room) refl)
          where
            written : leb (length s.actions + 1 + length e.section.subtables) e.action_room ≡ true
                → write (actions_in front tail s.actions) (length front + 24 * length s.actions) 0 (operation_number operation) number
                (length inputs) (output_of (some operation) output) (first_of inputs) (second_of inputs)
                ≡ actions_in front tail (s.actions ++ (pushed_as ∷ []))
            written p = unfold action_kind_number operation_of operation_word in write-action e.section (length ts) front tail s.actions
                pushed_as (length front) refl (push_room p) few sound

            count : length ts ≡ length updated.1.temporaries
            count = sym update_after.count

            go : (b : Bool) → leb (length s.actions + 1 + length e.section.subtables) e.action_room ≡ b
                → seen_pushed (on_push
                (when b then listed (Pushed.Done (record {
                  end = length front + 24 * length s.actions + 24;
                  temporaries = length ts;
                  sizing
                      = enc_z s.sizing;
                }))
                (write (actions_in front tail s.actions) (length front + 24 * length s.actions) 0 (operation_number operation) number
                (length inputs) (output_of (some operation) output) (first_of inputs) (second_of inputs))
                else listed (Pushed.No 12) (actions_in front tail s.actions))
                (λ st1 b. on_state (update_last stream table b (temporaries_in rest ts) (length front + 24 * length s.actions)
                we.pointer st1) λ st2 c w. pushed (Pushed.Done st2) c w)
                (λ n b. pushed (Pushed.No n) b (temporaries_in rest ts)))
                ≡ outcome front tail rest (λ _. tt)
                (on e (on e (require b list_full e (with_sizing updated.1 s)) λ _. λ e s0. done (tt {0}) (with_action updated.0 s0))
                λ _. λ e s0. done updated.0 s0)
            go true p = unfold on_push update_last on_state then_s require seen_pushed outcome in
                rw (written p, last_is) (λ i. yes tt (record
                { end = end_more updated.0 i; temporaries = count i; sizing = enc_z updated.1 })
                (actions_in front tail (s.actions ++ (updated.0 ∷ []))) (temporaries_in rest updated.1.temporaries))
            go false p = unfold on_push require seen_pushed outcome refusal_number in refl

        pub op_no_output_is : output ≡ none
            → seen_pushed (push_op stream table (actions_in front tail s.actions) (temporaries_in rest ts) we (operation_number operation) number
            (length inputs) (output_of (some operation) output) (first_of inputs) (second_of inputs) (enc_s (length front) s))
            ≡ outcome front tail rest (λ x. x) (d.op_no_output operation number inputs e s)
        unfolding d.op_no_output
        op_no_output_is none-given =
            push-op_is ∙ rw none-given (sym (outcome_map front tail rest e (λ x. x) (λ _. tt) (d.push_op operation number inputs none e s)))

        -- what a push that is done leaves
        pub push-op-done : (a : SemanticAction) (u : State) → d.push_op operation number inputs output e s ≡ done a u
            → (a ≡ updated.0) × (u ≡ with_action updated.0 (with_sizing updated.1 s)) × Stands tail rest u
        unfolding d.push_op d.push on
        push-op-done a u q = go (leb (length s.actions + 1 + length e.section.subtables) e.action_room) refl q
          where
            go : (b : Bool) → leb (length s.actions + 1 + length e.section.subtables) e.action_room ≡ b
                → on e (on e (require b list_full e (with_sizing updated.1 s)) λ _. λ e s0. done (tt {0}) (with_action updated.0 s0))
                (λ _. λ e s0. done updated.0 s0) ≡ done a u
                → (a ≡ updated.0) × (u ≡ with_action updated.0 (with_sizing updated.1 s)) × Stands tail rest u
            go true p q =
                let h : done updated.0 (with_action updated.0 (with_sizing updated.1 s)) ≡ done a u = unfold require in q in
                let k : a ≡ updated.0 = cc in
                let l : u ≡ with_action updated.0 (with_sizing updated.1 s) = cc in (
                  k,
                  l,
                  rw l (record {
                    actions = rw (length-append s.actions (updated.0 ∷ [])) (omega (arith, push_room p));
                    temporaries = rw update_after.count stands.temporaries;
                    sizes = update_after.temporaries;
                  }),
                )
            go false p q =
                let h : stopped list_full updated.1.begun 0 ≡ done a u = unfold require in q in
                cc

    -- with an output, and the output as its rule left it
    module _ (to : Value) where
      abbrev to_updated : SemanticAction × Sizing
      to_updated = updated (some to)

      module _ (sound : SoundAction e.section (length ts) (pushed_as (some to)))
          (operands : Operands (kind_of operation) (pushed_as (some to))) (room : length s.sizing.errors + 3 < 2 ^ 64) where
        read_back : (v : Value) → to_updated.0.output ≡ some v
            → value_at (actions_in front tail (s.actions ++ (to_updated.0 ∷ []))) (length front + 24 * length s.actions) 4 ≡ enc_v v
        read_back v q = rw (snoc_focus (some to) to_updated.0)
            (value_of stream table e.section holds rest (front ++ list_words s.actions)
            (drop (24 * length s.actions + 24) tail) (length front + 24 * length s.actions)
            (focus_at front tail s.actions (length front) refl) out to_updated.0 to_updated.1 0
            (after_ready 0 3 (omega arith) (ready (some to) sound operands room) (update_after (some to) sound operands room)) v
            (unfold at in q))

        pub op_to_is : seen_read (op_to stream table (actions_in front tail s.actions) (temporaries_in rest ts) we
            (operation_number operation) number (length inputs) (enc_v to) (first_of inputs) (second_of inputs) (enc_s (length front) s))
            ≡ outcome front tail rest enc_v (on e (d.push_op operation number inputs (some to) e s) λ a. λ e u. done
            (or_else to a.output) u)
        unfolding op_to at is_some
        op_to_is =
            bind_pushed front tail rest e seen_read enc_v (λ a. λ e u. done (or_else to a.output) u)
            (push_op stream table (actions_in front tail s.actions) (temporaries_in rest ts) we (operation_number operation) number
            (length inputs) (enc_v to) (first_of inputs) (second_of inputs) (enc_s (length front) s))
            (d.push_op operation number inputs (some to) e s) _ _
            (unfold output_of in push-op_is (some to) sound operands room) (λ n a m. unfold seen_read in refl) go
          where
            back : (v : Value) (u : State) → u ≡ with_action to_updated.0 (with_sizing to_updated.1 s) → to_updated.0.output ≡ some v
                → seen_read (read (Read.Value (value_at (actions_in front tail u.actions) (length front + 24 * length s.actions) 4)
                (enc_s (length front) u)) (actions_in front tail u.actions) (temporaries_in rest u.sizing.temporaries))
                ≡ outcome front tail rest enc_v (done (or_else to to_updated.0.output) u)
            back v u l q = unfold seen_read outcome or_else in rw (l, q, read_back v q)

            go : (a : SemanticAction) (u : State) → d.push_op operation number inputs (some to) e s ≡ done a u
                → seen_read (read (Read.Value (value_at (actions_in front tail u.actions) (length front + 24 * length s.actions) 4)
                (enc_s (length front) u)) (actions_in front tail u.actions) (temporaries_in rest u.sizing.temporaries))
                ≡ outcome front tail rest enc_v (done (or_else to a.output) u)
            go a u q =
                let h = push-op-done (some to) sound operands room a u q in
                let k = present to_updated.0.output ((update_after (some to) sound operands room).operands out) in
                rw h.0 (back k.0 u h.1 k.1)

-- more temporaries

within_more : (sec : Section) (n m : ℕ) (k : Kind) (x : ℕ) → n ≤ m → Within sec n k x → Within sec m k x
within_more sec n m Kind.InstStart x h f = f
within_more sec n m Kind.InstNext x h f = f
within_more sec n m Kind.Register x h f = f
within_more sec n m Kind.Field x h f = f
within_more sec n m Kind.Subtable x h f = f
within_more sec n m Kind.SubtableRef x h f = f
within_more sec n m Kind.PcodeTmp x h f = omega arith
within_more sec n m Kind.Constant x h f = f

pub sound_more : {sec : Section} {n : ℕ} (m : ℕ) {v : Value} → n ≤ m → Sound sec n v → Sound sec m v
sound_more {sec} {n} m {v} h f = record {
  number = within_more sec n m v.kind v.number h f.number;
  offset = f.offset;
  size =
      f.size;
}

pub action_more : {sec : Section} {n : ℕ} (m : ℕ) {x : SemanticAction} → n ≤ m → SoundAction sec n x → SoundAction sec m x
action_more {sec} {n} m {x} h f = record {
  inputs = each_more (Sound sec n) (Sound sec m) (λ v g. sound_more m h g) x.inputs f.inputs;
  output = go x.output f.output;
}
  where
    go : (y : Option Value) → EachOption (Sound sec n) y → EachOption (Sound sec m) y
    go none g = g
    go (some v) g = sound_more m h g

-- what a temporary that is made leaves
pub record Made (sec : Section) (tail rest : List ℕ) (s : State) (v : Value) (u : State) : Type 0 where
  pub stands : Stands tail rest u
  pub sound : Sound sec (length u.sizing.temporaries) v
  pub count : length s.sizing.temporaries ≤ length u.sizing.temporaries
  pub actions : u.actions ≡ s.actions
  pub errors : u.sizing.errors ≡ s.sizing.errors
  pub begun : u.sizing.begun ≡ s.sizing.begun

pub each_snoc : {A : Type 0} (P : A → Type 0) (xs : List A) (x : A) → Each P xs → P x → Each P (xs ++ (x ∷ []))
each_snoc P [] x h f = (f, tt)
each_snoc P (y ∷ xs) x h f = (h.0, each_snoc P xs x h.1 f)

module _ (e : Env) (s : State) (front tail rest : List ℕ) (lent : Lent e front tail rest) (stands : Stands tail rest s) where
  pub add_done : (name size : Option ℕ) → or_none name ≤ 65535 → or_else 0 size < 65535
      → (v : Value) (u : State) → d.add_tmp name size e s ≡ done v u
      → Made e.section tail rest s v u
  unfolding d.add_tmp on
  add_done name size small fits v u q = go (leb (length s.sizing.temporaries + 1) e.temporary_room) refl q
    where
      fresh : Temporary
      fresh = record { name = name; size = size }

      larger : State
      larger = with_sizing (with_temporaries (s.sizing.temporaries ++ (fresh ∷ [])) s.sizing) s

      go : (b : Bool) → leb (length s.sizing.temporaries + 1) e.temporary_room ≡ b
          → on e (require b too_many_temporaries e s) (λ _. λ e s0. on e
          (done (tt {0}) (with_sizing (with_temporaries (s.sizing.temporaries ++ (fresh ∷ [])) s.sizing) s0)) λ _. λ e s1. done
          (local Kind.PcodeTmp (length s.sizing.temporaries)) s1) ≡ done v u
          → Made e.section tail rest s v u
      go true p q =
          let h : done (local Kind.PcodeTmp (length s.sizing.temporaries)) larger ≡ done v u = unfold require in q in
          let k : v ≡ local Kind.PcodeTmp (length s.sizing.temporaries) = cc in
          let l : u ≡ larger = cc in
          let c : length (s.sizing.temporaries ++ (fresh ∷ []))
          ≡ length s.sizing.temporaries + 1 = length-append s.sizing.temporaries (fresh ∷ []) in
          let r = leb-true (length s.sizing.temporaries + 1) e.temporary_room p in
          rw (k, l) (record {
            stands = record {
              actions = stands.actions;
              temporaries = omega (arith, lent.temporary_room);
              sizes = each_snoc SoundTmp s.sizing.temporaries fresh stands.sizes (record { name = small; size = fits });
            };
            sound = record { number = omega arith; offset = omega arith; size = unfold or_else in omega arith };
            count = omega arith;
            actions = refl;
            errors = refl;
            begun = refl;
          })
      go false p q =
          let h : stopped too_many_temporaries s.sizing.begun 0 ≡ done v u = unfold require in q in
          cc

  pub output-done : (size : Option ℕ) (to : Option Value) → or_else 0 size < 65535
      → EachOption (Sound e.section (length s.sizing.temporaries)) to → (v : Value) (u : State) → d.output_or size to e s ≡ done v u
      → Made e.section tail rest s v u
  unfolding d.output_or
  output-done size none fits f v u q = add_done none size (unfold or_none or_else in omega arith) fits v u q
  output-done size (some w) fits f v u q =
      let k : v ≡ w = cc in
      let l : u ≡ s = cc in
      rw (k, l) (record { stands = stands; sound = f; count = omega arith; actions = refl; errors = refl; begun = refl })

-- what an operation leaves: one action more, and its output
pub record Opped (sec : Section) (tail rest : List ℕ) (s : State) (v : Value) (u : State) : Type 0 where
  pub stands : Stands tail rest u
  pub sound : Sound sec (length u.sizing.temporaries) v
  pub count : length s.sizing.temporaries ≤ length u.sizing.temporaries
  pub errors : length u.sizing.errors ≤ length s.sizing.errors + 3
  pub begun : u.sizing.begun ≡ s.sizing.begun
  pub action : SemanticAction
  pub actions : u.actions ≡ s.actions ++ (action ∷ [])
  pub within : SoundAction sec (length u.sizing.temporaries) action
  pub ruled : Ruled action.kind action

-- An operation with an output, a fresh temporary where none is given.
module _ (e : Env) (s : State) (front tail rest : List ℕ) (lent : Lent e front tail rest) (stands : Stands tail rest s)
    (stream table : List ℕ) (holds : SizesHold stream table e.section) (we : WordEnv)
    (pointer_is : we.pointer ≡ pointer_size e.section)
    (operation : Operation) (number : ℕ) (inputs : List Value) (few : length inputs ≤ 2)
    (sound : Each (Sound e.section (length s.sizing.temporaries)) inputs)
    (operands : (v : Value) → Operands (kind_of operation)
    (record { kind = ActionKind.Op operation; number = number; inputs = inputs; output = some v }))
    (room : length s.sizing.errors + 3 < 2 ^ 64) (to : Option Value)
    (given : EachOption (Sound e.section (length s.sizing.temporaries)) to) where
  made_sound : (v : Value) (u : State) → Made e.section tail rest s v u
      → SoundAction e.section (length u.sizing.temporaries)
      (record { kind = ActionKind.Op operation; number = number; inputs = inputs; output = some v })
  made_sound v u m = record {
    inputs = each_more (Sound e.section (length s.sizing.temporaries)) (Sound e.section (length u.sizing.temporaries))
        (λ x g. sound_more (length u.sizing.temporaries) m.count g) inputs sound;
    output = m.sound;
  }

  pub op_is : (w : WordValue) → IsGiven to w → seen_read
      (op stream table (actions_in front tail s.actions) (temporaries_in rest s.sizing.temporaries) we
      (operation_number operation) number (length inputs) (is_some to) w (first_of inputs) (second_of inputs) (enc_s (length front) s))
      ≡ outcome front tail rest enc_v (d.op operation number inputs to e s)
  unfolding op d.op
  op_is w g =
      bind_tmp front tail rest e seen_read enc_v (λ v. λ e u. on e (d.push_op operation number inputs (some v) e u) λ a. λ e u. done
      (or_else v a.output) u) enc_v
      (actions_in front tail s.actions) (output_or (temporaries_in rest s.sizing.temporaries) (is_some to) w 65535
      (enc_s (length front) s)) (d.output_or none to e s) _ _
      (unfold or_none or_else in output_is e s front tail rest lent stands none to w (omega arith) g) (λ n m. unfold seen_read in refl)
      go
    where
      go : (v : Value) (u : State) → d.output_or none to e s ≡ done v u → actions_in front tail s.actions
          ≡ actions_in front tail u.actions
          → seen_read (op_to stream table (actions_in front tail s.actions) (temporaries_in rest u.sizing.temporaries) we
          (operation_number operation) number (length inputs) (enc_v v) (first_of inputs) (second_of inputs) (enc_s (length front) u))
          ≡ outcome front tail rest enc_v (on e (d.push_op operation number inputs (some v) e u) λ a. λ e u. done (or_else v a.output)
          u)
      go v u q r =
          let m = output-done e s front tail rest lent stands none to (unfold or_else in omega arith) given v u q in
          let k : length u.sizing.errors + 3 < 2 ^ 64 = rw m.errors room in
          rw r (op_to_is e u front tail rest lent m.stands stream table holds we pointer_is operation number inputs few v
          (made_sound v u m) (operands v) k)

  -- what an operation that is done leaves
  pub op-done : (v : Value) (u : State) → d.op operation number inputs to e s ≡ done v u → Opped e.section tail rest s v u
  unfolding d.op
  op-done v u h = go (d.output_or none to e s) refl h
    where
      pushed-done : (w : Value) (r : State) (m : Made e.section tail rest s w r) (o : Outcome SemanticAction)
          → d.push_op operation number inputs (some w) e r ≡ o
          → on e o (λ a. λ e u. done (or_else w a.output) u) ≡ done v u → Opped e.section tail rest s v u
      pushed-done w r m (done a q) p h =
          let k : done (or_else w a.output) q ≡ done v u = unfold on in h in
          let c : v ≡ or_else w a.output = cc in
          let g : u ≡ q = cc in
          let z : SemanticAction × Sizing = sizes.update_operand_sizes e.section false
          (record { kind = ActionKind.Op operation; number = number; inputs = inputs; output = some w }) r.sizing in
          let room1 : length r.sizing.errors + 3 < 2 ^ 64 = rw m.errors room in
          let x = push-op-done e r front tail rest lent m.stands stream table holds we pointer_is operation number inputs few
          (some w) (made_sound w r m) (operands w) room1 a q p in
          let y = update_after e r front tail rest lent m.stands stream table holds we pointer_is operation number inputs few
          (some w) (made_sound w r m) (operands w) room1 in
          rw (c, g, x.0, x.1) (record {
            stands = subst (Stands tail rest) x.1 x.2;
            sound = result w (subst (λ (n : ℕ). Sound e.section n w) (sym y.count) m.sound) z.0.output y.action.output;
            count = omega (arith, m.count, y.count);
            errors = omega (arith, y.errors, ap length m.errors);
            begun = y.begun ∙ m.begun;
            action = z.0;
            actions = ap (λ (l : List SemanticAction). l ++ (z.0 ∷ [])) m.actions;
            within = y.action;
            ruled = ruled-after y (operands w);
          })
        where
          result : {n : ℕ} (w : Value) → Sound e.section n w → (y : Option Value) → EachOption (Sound e.section n) y
              → Sound e.section n (or_else w y)
          result w f none g = unfold or_else in f
          result w f (some z) g = unfold or_else in g
      pushed-done w r m (stopped z ordinal errors) p h = let k : stopped z ordinal errors
          ≡ done v u = unfold on in h in cc

      go : (o : Outcome Value) → d.output_or none to e s ≡ o
          → on e o (λ w. λ e r. on e (d.push_op operation number inputs (some w) e r) λ a. λ e u. done (or_else w a.output) u) ≡ done v u
          → Opped e.section tail rest s v u
      go (done w r) p h = pushed-done w r (output-done e s front tail rest lent stands none to (unfold or_else in omega arith) given w
          r p) (d.push_op operation number inputs (some w) e r) refl (unfold on in h)
      go (stopped z ordinal errors) p h = let k : stopped z ordinal errors
          ≡ done v u = unfold on in h in cc
