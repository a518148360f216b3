-- A user op as a statement: its arguments are resolved, then read in place, then written as the inputs of one action.
use Prim.Native.Nat.{ℕ, zero, suc, ◌+◌, ◌*◌, ◌%◌, ◌≤◌, ◌<◌}
use mathlib.Core.Path.{◌≡◌, refl, sym, ◌∙◌, ap}
use mathlib.Core.Bool.{Bool, true, false}
use mathlib.Core.List.{List, [], ◌∷◌, ◌++◌, append_assoc}
use mathlib.Core.Option.{none}
use native.Mathlib.Omega.{arith}
use lib.ListN.{length, get_or, set, drop, replicate, length-append, length-drop, length-set, length-replicate}
use lib.Seq.{drop-drop, get_or-set_same, get_or-set_other}
use lib.Dec.{leb}
use borrow.Author.Tests.{eq-eqb, leb-true}
use Rattle.access.specs.Le.{le16}
use Rattle.prelude.specs.Base.{when◌then◌else◌}
use Rattle.definition.specs.Refusals.{refusal_number, list_full}
use Rattle.definition.specs.Operations.{Operation, operation_number}
use Rattle.definition.specs.Value.{Value, SemanticAction, operation_of}
use Rattle.definition.specs.Ast.{Args, Section}
use Rattle.definition.specs.SectionFile.{parsed, args_of, expr_within}
use Rattle.definition.specs.Sizes as sizes
use Rattle.definition.specs.Sizes.{Sizing}
use Rattle.definition.specs.Walk as walks
use Rattle.definition.specs.Walk.{ExprValue, State, Env, Outcome, done, stopped, on, require, with_sizing, with_action}
use Rattle.definition.specs.Expressions as expressions
use Rattle.definition.specs.Statements as d
use Rattle.definition.specs.ActionList.{input_words, value_words, action_kind_number, operation_word, filled, action_words, list_words, places_label, labels_placed}
use Rattle.definition.proofs.Openers.{base_opens, operations_opens, sizes_opens}
use Rattle.list_values.specs.declared.value.Value.{Value as WordValue}
use Rattle.list_pushes.specs.declared.push.State.{State as WordState}
use Rattle.list_pushes.specs.declared.push.Env.{Env as WordEnv}
use Rattle.list_pushes.specs.Outcomes.{Pushed}
use Rattle.list_values.specs.Base.{Listed, listed, then_l}
use Rattle.access.specs.Loops.{run}
use Rattle.list_values.specs.Values.{absent, no_output, word, value_of, value_at, put_value, zero_words}
use Rattle.list_pushes.specs.Pushes.{on_push, with_end, write_operands, write_head, write, push}
use Rattle.list_refinement.proofs.Pushes.{push_test}
use Rattle.list_refinement.specs.Encoding.{enc_v, packed, actions_in, Sound, Each}
use Rattle.list_refinement.proofs.Operands.{word_is, value_back, out_number, out_word, words_of_lem}
use Rattle.list_refinement.proofs.Lists.{list_focus, focus_at, fill, fill_is}
use Rattle.list_refinement.proofs.Seen.{Seen, no, yes, seen_push}
use Rattle.expr_scope.specs.Slots.{slot_at, param_place, arg_at, put_arg}
use Rattle.expr_resolver.specs.Expressions.{resolve_args, resolve_expr}
use Rattle.stmt_walk.specs.Outcomes.{Walk}
use Rattle.stmt_walk.specs.Walks.{Stepped, beside_p, pushed_then}
use Rattle.stmt_simple.specs.Calls.{write_input, write_inputs, ArgsRead, args_read, read_args, push_user_op, user_op_read, user_op_args, step_args, user_op_statement}
use Rattle.expr_refinement.proofs.Encodings.{sound_more, x_more, each_more, each_last, placed-last}
use Rattle.expr_refinement.proofs.Answers.{bind, bind_read, bind_args, acts, temps, word as state_word, seen_args, Reached, Refines, refines_at, refines_done, refines_stopped, refines_map, weaken}
use Rattle.expr_refinement.proofs.Below.{Spare}
use Rattle.expr_refinement.proofs.Reading.{read-operand}
use Rattle.expr_refinement.proofs.Slots.{arg_length}
use Rattle.expr_refinement.proofs.Calls.{ArgsIn}
use Rattle.expr_refinement.proofs.Expressions.{after_is, filled_args, filled_in, resolve_args_lem, resolve-expr}
use Rattle.stmt_refinement.proofs.Views.{seen_step, begun_in, stop_seen, map_seen, refines_as, Goes}
use Rattle.stmt_refinement.proofs.Given.{below}
use Rattle.stmt_refinement.proofs.Steps.{Steps}
use Rattle.stmt_refinement.proofs.Stepping.{steps_goes}
use Rattle.expr_refinement.specs.Encoding.{enc_x, SoundX, op_action, count, Stood}
use Rattle.stmt_refinement.specs.Standing.{Beside, Given, walk_of, Standing}

-- the arguments' values stand in their slots, the first of these in slot i
abbrev ValuesIn : List ℕ → ℕ → List Value → Type 0
ValuesIn args i [] = Unit {0}
ValuesIn args i (v ∷ vs) = (value_at args (param_place i) 4 ≡ enc_v v) × ValuesIn args (suc i) vs

inputs_length : (vs : List Value) → length (input_words vs) ≡ 2 * length vs
unfolding input_words value_words
inputs_length [] = refl
inputs_length (v ∷ vs) = let h = inputs_length vs in omega arith

-- writing the inputs, one word after another
input_written : (sec : Section) (n : ℕ) (v : Value) (i at : ℕ) (args a : List ℕ) → i < 8 → value_at args (param_place i) 4 ≡ enc_v v → Sound sec n v → write_input at args i a ≡ set (set a (at + (6 + 2 * i)) v.number) (at + suc (6 + 2 * i)) (packed v)
unfolding write_input put_value
input_written sec n v i at args a h g f =
    let p : 6 + 2 * (i % 8) ≡ 6 + 2 * i = omega arith in
    let q : 6 + 2 * i + 1 ≡ suc (6 + 2 * i) = omega arith in
    rw (g, p, q, word_is v f.offset f.size)

inputs-fill : (sec : Section) (n : ℕ) (vs : List Value) (i at : ℕ) (args a : List ℕ) → i + length vs ≤ 8 → ValuesIn args i vs → Each (Sound sec n) vs → run (length vs) i (write_input at args) a ≡ fill a at (6 + 2 * i) (input_words vs)
unfolding run input_words value_words fill packed
inputs-fill sec n [] i at args a h g f = refl
inputs-fill sec n (v ∷ vs) i at args a h g f =
    let r : 6 + 2 * suc i ≡ suc (suc (6 + 2 * i)) = omega arith in
    ap (λ (l : List ℕ). run (length vs) (suc i) (write_input at args) l) (input_written sec n v i at args a (omega arith) g.0 f.0)
    ∙ inputs-fill sec n vs (suc i) at args _ (omega arith) g.1 f.1 ∙ ap (λ (k : ℕ). fill (set (set a (at + (6 + 2 * i)) v.number) (at + suc (6 + 2 * i)) (packed v)) at k (input_words vs)) r

filled_over : (k : ℕ) (ws rest : List ℕ) → length ws ≤ k → ws ++ drop (length ws) (filled k [] ++ rest) ≡ filled k ws ++ rest
unfolding filled
filled_over k [] rest h = refl
filled_over zero (w ∷ ws) rest h = absurd (omega arith)
filled_over (suc k) (w ∷ ws) rest h = ap (λ (l : List ℕ). w ∷ l) (filled_over k ws rest (omega arith))

-- the words of a user op with so many inputs that are not written yet
abbrev heading : ℕ → ℕ → List ℕ
heading id n = 0 ∷ 63 ∷ id ∷ n ∷ 0 ∷ word no_output ∷ []

abbrev unwritten : ℕ → ℕ → List ℕ
unwritten id n = 0 ∷ 63 ∷ id ∷ n ∷ 0 ∷ word no_output ∷ 0 ∷ word absent ∷ 0 ∷ word absent ∷ 0 ∷ 0 ∷ 0 ∷ 0 ∷ 0 ∷ 0 ∷ 0 ∷ 0 ∷ 0 ∷ 0 ∷ 0 ∷ 0 ∷ 0 ∷ 0 ∷ []

unwritten_is : (p rest : List ℕ) (at id n : ℕ) → length p ≡ at → 24 ≤ length rest → write (p ++ rest) at 0 63 id n no_output absent absent ≡ p ++ (unwritten id n ++ drop 24 rest)
unfolding write zero_words write_operands write_head put_value run fill
unwritten_is p rest at id n e h = fill_is (unwritten id n) p rest at 0 (e ∙ omega arith) h

module _ (sec : Section) (n : ℕ) (vs : List Value) (few : length vs ≤ 8) (sound : Each (Sound sec n) vs) (id : ℕ) where
  abbrev calling : SemanticAction
  calling = op_action Operation.PcodeOp id vs none

  calling_words : action_words calling ≡ heading id (length vs) ++ filled 18 (input_words vs)
  calling_words = words_of_lem calling ∙ (unfold action_kind_number operation_word operation_of operation_number out_number out_word word in refl)

  -- the action's words written over any others
  written_over : (p rest : List ℕ) (at : ℕ) (args : List ℕ) → ValuesIn args 0 vs → length p ≡ at → 24 ≤ length rest
      → write_inputs (length vs) (write (p ++ rest) at 0 63 id (length vs) no_output absent absent) at args ≡ p ++ (action_words calling ++ drop 24 rest)
  unfolding write_inputs filled word
  written_over p rest at args g e h =
      let k = inputs_length vs in
      rw (unwritten_is p rest at id (length vs) e h, calling_words)
      (inputs-fill sec n vs 0 at args _ (omega arith) g sound
      ∙ ap (λ (l : List ℕ). fill l at 6 (input_words vs)) (sym (append_assoc p (heading id (length vs)) (filled 18 [] ++ drop 24 rest)))
      ∙ fill_is (input_words vs) (p ++ heading id (length vs)) (filled 18 [] ++ drop 24 rest) at 6 (length-append p (heading id (length vs)) ∙ omega arith) (omega arith)
      ∙ ap (λ (l : List ℕ). (p ++ heading id (length vs)) ++ l) (filled_over 18 (input_words vs) (drop 24 rest) (omega arith))
      ∙ append_assoc p (heading id (length vs)) (filled 18 (input_words vs) ++ drop 24 rest))

  -- as one action more
  written_behind : (front tail : List ℕ) (xs : List SemanticAction) (args : List ℕ) → ValuesIn args 0 vs → 24 * length xs + 24 ≤ length tail
      → write_inputs (length vs) (write (actions_in front tail xs) (length front + 24 * length xs) 0 63 id (length vs) no_output absent absent) (length front + 24 * length xs) args ≡ actions_in front tail (xs ++ (calling ∷ []))
  unfolding list_words
  written_behind front tail xs args g h =
      let c : length (xs ++ (calling ∷ [])) ≡ length xs + 1 = length-append xs (calling ∷ []) in
      let q : 24 * (length xs + 1) ≡ 24 * length xs + 24 = omega arith in
      rw (← append_assoc front (list_words xs) (drop (24 * length xs) tail))
      (written_over (front ++ list_words xs) (drop (24 * length xs) tail) (length front + 24 * length xs) args g (focus_at front tail xs (length front) refl) (rw (length-drop (24 * length xs) tail) (omega arith))
      ∙ rw (drop-drop 24 (24 * length xs) tail, list_focus front tail xs calling [], c, q))

-- a user op has no rule for sizes
call_unsized : (sec : Section) (id : ℕ) (vs : List Value) (z : Sizing) → sizes.update_operand_sizes sec false (op_action Operation.PcodeOp id vs none) z ≡ (op_action Operation.PcodeOp id vs none, z)
unfolding sizes_opens
call_unsized sec id vs z = refl

call_is : (id : ℕ) (vs : List Value) (e : Env) (st : State) → walks.op_no_output Operation.PcodeOp id vs e st ≡ on e (walks.push (op_action Operation.PcodeOp id vs none) e st) (λ _ e1 st1. done tt st1)
unfolding walks.op_no_output walks.push_op
call_is id vs e st =
    ap (λ (y : SemanticAction × Sizing). on e (on e (done y.0 (with_sizing y.1 st)) λ a e1 st1. on e1 (walks.push a e1 st1) λ _ e2 st2. done a st2) λ _ e1 st1. done (tt {0}) st1) (call_unsized e.section id vs st.sizing)
    ∙ (unfold on in go (walks.push (op_action Operation.PcodeOp id vs none) e st))
  where
    go : (o : Outcome (Unit {0})) → on e (on e o λ _ e2 st2. done (op_action Operation.PcodeOp id vs none) st2) (λ _ e1 st1. done (tt {0}) st1) ≡ on e o (λ _ e1 st1. done tt st1)
    go (done a u) = unfold on in refl
    go (stopped r ordinal errors) = unfold on in refl

module _ (s t : List ℕ) (e : Env) (front tail rest : List ℕ) (we : WordEnv) (given : Given s t e front tail rest we) (spare : ℕ) (room : Spare spare tail) where
  abbrev A : State → List ℕ
  A st = acts e.section front tail rest st

  abbrev M : State → List ℕ
  M st = temps e.section front tail rest st

  abbrev W : State → WordState
  W st = state_word e.section front tail rest st

  abbrev Stands : State → Type 0
  Stands st = Stood e.section tail rest spare st

  module _ (st : State) (f : Stands st) (id : ℕ) (vs : List Value) (few : length vs ≤ 8) (sound : Each (Sound e.section (count st)) vs) where
    abbrev called : State
    called = with_action (op_action Operation.PcodeOp id vs none) st

    plain : labels_placed called.actions ≡ labels_placed st.actions
    plain = placed-last st.actions (op_action Operation.PcodeOp id vs none) ∙ (unfold places_label operation_of operations_opens base_opens in omega arith)

    reached : 24 * length st.actions + 24 ≤ length tail → Reached e.section front tail rest spare st called
    reached h = let n = length-append st.actions (op_action Operation.PcodeOp id vs none ∷ []) in record {
      stood = record {
        actions = omega arith;
        temporaries = f.temporaries;
        sizes = f.sizes;
        errors = omega (arith, f.errors);
        sound = each_last _ st.actions (op_action Operation.PcodeOp id vs none) f.sound (record { inputs = sound; output = tt });
        params = f.params;
        mapping = f.mapping;
      };
      later = record { temporaries = omega arith; statements = refl; scope = refl; next_label = refl; export = refl; begun = refl; actions = omega arith; placed = plain };
    }

    fits : leb (length st.actions + 1 + length e.section.subtables) e.action_room ≡ true → 24 * length st.actions + 24 ≤ length tail
    fits c = let h = leb-true (length st.actions + 1 + length e.section.subtables) e.action_room c in omega (arith, given.lent.builds, given.lent.action_room)

    ends : length front + 24 * length st.actions + 24 ≡ length front + 24 * length called.actions
    ends = let n = length-append st.actions (op_action Operation.PcodeOp id vs none ∷ []) in omega arith

    pushed-done : (args : List ℕ) → ValuesIn args 0 vs → 24 * length st.actions + 24 ≤ length tail
        → Refines e.section front tail rest spare st (λ _. tt {0}) (λ n (_ : Unit {0}). Unit {0})
        (seen_push (M st) (listed (Pushed.Done (with_end (length front + 24 * length st.actions + 24) (W st))) (write_inputs (length vs) (write (A st) (length front + 24 * length st.actions) 0 63 id (length vs) no_output absent absent) (length front + 24 * length st.actions) args))) (done tt called)
    unfolding seen_push
    pushed-done args g h =
        rw (written_behind e.section (count st) vs few sound id front tail st.actions args g h, ends)
        (refines_at e.section front tail rest spare st called (λ _. tt {0}) (λ n (_ : Unit {0}). Unit {0}) tt tt (reached h) tt refl)

    pushed_is : (args : List ℕ) → ValuesIn args 0 vs → (c : Bool) → leb (length st.actions + 1 + length e.section.subtables) e.action_room ≡ c
        → Refines e.section front tail rest spare st (λ _. tt {0}) (λ n (_ : Unit {0}). Unit {0})
        (seen_push (M st) (on_push (when c then listed (Pushed.Done (with_end (length front + 24 * length st.actions + 24) (W st))) (write (A st) (length front + 24 * length st.actions) 0 63 id (length vs) no_output absent absent) else listed (Pushed.No 12) (A st))
        (λ st1 b. listed (Pushed.Done st1) (write_inputs (length vs) b (length front + 24 * length st.actions) args)) (λ k b. listed (Pushed.No k) b)))
        (on e (on e (require c list_full e st) λ _ e1 st1. done (tt {0}) (with_action (op_action Operation.PcodeOp id vs none) st1)) λ _ e1 st1. done (tt {0}) st1)
    pushed_is args g true c =
        unfold on_push require on in pushed-done args g (fits c)
    pushed_is args g false c = unfold on_push require on seen_push in refines_stopped e.section front tail rest spare st (λ _. tt {0}) (λ n (_ : Unit {0}). Unit {0}) 12 list_full (unfold refusal_number in refl)

    -- the action pushed, and its inputs written
    user-op-pushed : (args : List ℕ) → ValuesIn args 0 vs
        → Refines e.section front tail rest spare st (λ _. tt {0}) (λ n (_ : Unit {0}). Unit {0}) (seen_push (M st) (push_user_op (A st) args id (length vs) (W st))) (walks.op_no_output Operation.PcodeOp id vs e st)
    unfolding push_user_op push walks.push
    user-op-pushed args g = rw (call_is id vs e st, push_test e st front tail rest given.lent (record { actions = f.actions; temporaries = f.temporaries; sizes = f.sizes })) (unfold on in pushed_is args g (leb (length st.actions + 1 + length e.section.subtables) e.action_room) refl)

-- Arguments read in place: a slot's value is written over, the other slots stay.

put_other : (args : List ℕ) (at q : ℕ) (v : WordValue) → (q ≡ at + 4 → ⊥) → (q ≡ at + 5 → ⊥) → get_or (put_value args at 4 v) q 0 ≡ get_or args q 0
unfolding put_value
put_other args at q v h k = get_or-set_other (set args (at + 4) v.number) (at + 5) q (word v) 0 k ∙ get_or-set_other args (at + 4) q v.number 0 h

slot-place : (i : ℕ) → i < 8 → param_place i ≡ 8 * i
unfolding param_place
slot-place i h = omega arith

arg_kept : (args : List ℕ) (i j : ℕ) (v : WordValue) → i < 8 → j < 8 → i < j → arg_at (put_value args (param_place i) 4 v) j ≡ arg_at args j
unfolding arg_at slot_at value_at
arg_kept args i j v h k l =
    rw (slot-place i h, slot-place j k)
    (rw (other 1 (omega arith), other 2 (omega arith), other 3 (omega arith), other 4 (omega arith), other 5 (omega arith), other 6 (omega arith), other 7 (omega arith)))
  where
    other : (n : ℕ) → n < 8 → get_or (put_value args (8 * i) 4 v) (8 * j + n) 0 ≡ get_or args (8 * j + n) 0
    other n m = put_other args (8 * i) (8 * j + n) v (λ q. omega arith) (λ q. omega arith)

args_kept : (xs : List ExprValue) (args : List ℕ) (i j : ℕ) (v : WordValue) → i < j → j + length xs ≤ 8 → ArgsIn args j xs → ArgsIn (put_value args (param_place i) 4 v) j xs
args_kept [] args i j v h k g = tt
args_kept (x ∷ xs) args i j v h k g = (arg_kept args i j v (omega arith) (omega arith) h ∙ g.0, args_kept xs args i (suc j) v (omega arith) (omega arith) g.1)

-- the values written, the first in slot i
unfoldable read_into : List ℕ → ℕ → List Value → List ℕ
read_into args i [] = args
read_into args i (v ∷ vs) = read_into (put_value args (param_place i) 4 (enc_v v)) (suc i) vs

read_before : (vs : List Value) (args : List ℕ) (i q : ℕ) → q < 8 * i + 4 → i + length vs ≤ 8 → get_or (read_into args i vs) q 0 ≡ get_or args q 0
unfolding read_into
read_before [] args i q h k = refl
read_before (v ∷ vs) args i q h k =
    read_before vs (put_value args (param_place i) 4 (enc_v v)) (suc i) q (omega arith) (omega arith)
    ∙ put_other args (param_place i) q (enc_v v) (λ z. let p = slot-place i (omega arith) in omega arith) (λ z. let p = slot-place i (omega arith) in omega arith)

put_same : (args : List ℕ) (at : ℕ) (v : WordValue) → at + 8 ≤ length args → (get_or (put_value args at 4 v) (at + 4) 0 ≡ v.number) × (get_or (put_value args at 4 v) (at + 5) 0 ≡ word v)
unfolding put_value
put_same args at v h =
    let n = length-set args (at + 4) v.number in
    (get_or-set_other (set args (at + 4) v.number) (at + 5) (at + 4) (word v) 0 (λ q. omega arith) ∙ get_or-set_same args (at + 4) v.number 0 (omega arith), get_or-set_same (set args (at + 4) v.number) (at + 5) (word v) 0 (omega arith))

put-long : (args : List ℕ) (at : ℕ) (v : WordValue) → length (put_value args at 4 v) ≡ length args
unfolding put_value
put-long args at v = length-set (set args (at + 4) v.number) (at + 5) (word v) ∙ length-set args (at + 4) v.number

read_values : (sec : Section) (n : ℕ) (vs : List Value) (args : List ℕ) (i : ℕ) → length args ≡ 64 → i + length vs ≤ 8 → Each (Sound sec n) vs → ValuesIn (read_into args i vs) i vs
unfolding read_into value_at
read_values sec n [] args i h k f = tt
read_values sec n (v ∷ vs) args i h k f = (
  here,
  read_values sec n vs (put_value args (param_place i) 4 (enc_v v)) (suc i) (put-long args (param_place i) (enc_v v) ∙ h) (omega arith) f.1,
)
  where
    here : value_at (read_into (put_value args (param_place i) 4 (enc_v v)) (suc i) vs) (param_place i) 4 ≡ enc_v v
    here =
        let p = slot-place i (omega arith) in
        let a = read_before vs (put_value args (param_place i) 4 (enc_v v)) (suc i) (param_place i + 4) (omega arith) (omega arith) in
        let b = read_before vs (put_value args (param_place i) 4 (enc_v v)) (suc i) (param_place i + 5) (omega arith) (omega arith) in
        let c = put_same args (param_place i) (enc_v v) (omega arith) in
        ap (λ (x : ℕ). value_of x (get_or (read_into (put_value args (param_place i) 4 (enc_v v)) (suc i) vs) (param_place i + 5) 0)) (a ∙ c.0)
        ∙ ap (λ (x : ℕ). value_of v.number x) (b ∙ c.1 ∙ word_is v f.0.offset f.0.size) ∙ value_back v f.0.offset f.0.size

-- the arguments' words, or the refusal
unfoldable seen_args_read : ArgsRead → Seen (List ℕ)
seen_args_read (args_read (Pushed.Done st) a m args) = yes args st a m
seen_args_read (args_read (Pushed.No n) a m args) = no n

module _ (s t : List ℕ) (e : Env) (front tail rest : List ℕ) (we : WordEnv) (given : Given s t e front tail rest we) (spare : ℕ) (room : Spare spare tail) where
  -- as many values as there were arguments
  abbrev ReadAll : ℕ → ℕ → List Value → Type 0
  ReadAll k n vs = Each (Sound e.section n) vs × (length vs ≡ k)

  abbrev ReadBehind : Value → ℕ → ℕ → List Value → Type 0
  ReadBehind v k n vs = (ws : List Value) × (vs ≡ v ∷ ws) × ReadAll k n ws

  read_args_lem : (xs : List ExprValue) (i : ℕ) (args : List ℕ) → i + length xs ≤ 8 → ArgsIn args i xs → (st : State) → Stood e.section tail rest spare st → Each (SoundX e.section (count st)) xs
      → Refines e.section front tail rest spare st (read_into args i) (ReadAll (length xs))
      (seen_args_read (read_args (length xs) i s t (acts e.section front tail rest st) (temps e.section front tail rest st) args we (state_word e.section front tail rest st))) (expressions.read_all xs e st)
  unfolding read_args expressions.read_all seen_args_read
  read_args_lem [] i args h g st f k = unfold read_into in refines_done e.section front tail rest spare st (read_into args i) (ReadAll 0) [] args f (tt, refl) refl
  read_args_lem (x ∷ xs) i args h g st f k =
      rw g.0
      (bind_read e.section front tail rest spare spare e st (Sound e.section) seen_args_read (read_into args i) (ReadAll (suc (length xs))) (λ v e1 st1. on e1 (expressions.read_all xs e1 st1) λ vs e2 st2. done (v ∷ vs) st2) enc_v _ _ _ _
      (read-operand s t e front tail rest we (below s t e front tail rest we given) spare room st f x k.0) (λ n a m. refl)
      λ v st1 r p.
      weaken e.section front tail rest spare spare st1 (read_into args i) (ReadBehind v (length xs)) (ReadAll (suc (length xs))) _ _
      (refines_map e.section front tail rest spare e st1 (read_into (put_value args (param_place i) 4 (enc_v v)) (suc i)) (ReadAll (length xs)) (read_into args i) (ReadBehind v (length xs)) (λ vs. v ∷ vs) _ _
      (read_args_lem xs (suc i) (put_value args (param_place i) 4 (enc_v v)) (omega arith) (args_kept xs args i (suc i) (enc_v v) (omega arith) (omega arith) g.1) st1 r.stood
      (each_more (SoundX e.section (count st)) (SoundX e.section (count st1)) (x_more e.section (count st) (count st1) r.later.temporaries) xs k.1))
      (λ vs. unfold read_into in refl) (λ n vs q. (vs, refl, q)))
      (λ vs u m o q. (o, rw q.1 ((sound_more e.section (count st1) (count u) o.later.temporaries v p, q.2.0), ap suc q.2.1))))

  module _ (b : Beside) (z : WordState) (id next : ℕ) where
    abbrev w : Walk
    w = walk_of b z

    abbrev Ends : State → Stepped → Outcome (Unit {0}) → Type 0
    Ends st x o = Goes e.section front tail rest spare st next b z.sizing.begun x o

    push_args : (y : Listed Pushed) (m args : List ℕ) → seen_step (begun_in w) (step_args (then_l y λ r c. args_read r c m args) (pushed_then next w)) ≡ map_seen (λ _. (next, b)) (seen_push m y)
    unfolding seen_step step_args then_l pushed_then map_seen seen_push
    push_args (listed (Pushed.Done st) a) m args = refl
    push_args (listed (Pushed.No n) a) m args = rw (eq-eqb (begun_in w) (begun_in w) refl)

    abbrev pushing : ℕ → List ℕ → WordState → List ℕ → List ℕ → Stepped
    pushing k args st a m = step_args (then_l (push_user_op a args id k st) λ r c. args_read r c m args) (pushed_then next w)

    -- the arguments read and pushed
    read-pushed : (xs : List ExprValue) → length xs ≤ 8 → (args : List ℕ) → length args ≡ 64 → ArgsIn args 0 xs → (st : State) → Stood e.section tail rest spare st → Each (SoundX e.section (count st)) xs
        → Ends st (step_args (user_op_args s t (acts e.section front tail rest st) (temps e.section front tail rest st) args id (length xs) we (state_word e.section front tail rest st)) (pushed_then next w)) (on e (expressions.read_all xs e st) λ vs. walks.op_no_output Operation.PcodeOp id vs)
    unfolding user_op_args
    read-pushed xs few args long g st f k =
        bind e.section front tail rest spare spare e st (read_into args 0) (ReadAll (length xs)) (seen_step (begun_in w)) (λ (_ : Unit {0}). (next, b)) (λ n (_ : Unit {0}). Unit {0}) (λ vs. walks.op_no_output Operation.PcodeOp id vs)
        (seen_args_read (read_args (length xs) 0 s t (acts e.section front tail rest st) (temps e.section front tail rest st) args we (state_word e.section front tail rest st))) (expressions.read_all xs e st) _ (pushing (length xs))
        (read_args_lem xs 0 args (omega arith) g st f k)
        (λ vs st2 r q. pushed_step vs st2 r q.0 q.1)
        (go (read_args (length xs) 0 s t (acts e.section front tail rest st) (temps e.section front tail rest st) args we (state_word e.section front tail rest st)))
        (stays (read_args (length xs) 0 s t (acts e.section front tail rest st) (temps e.section front tail rest st) args we (state_word e.section front tail rest st)))
      where
        pushed_step : (vs : List Value) (st2 : State) → Reached e.section front tail rest spare st st2 → Each (Sound e.section (count st2)) vs → length vs ≡ length xs
            → Ends st2 (pushing (length xs) (read_into args 0 vs) (state_word e.section front tail rest st2) (acts e.section front tail rest st2) (temps e.section front tail rest st2)) (walks.op_no_output Operation.PcodeOp id vs e st2)
        pushed_step vs st2 r q l =
            rw (← l)
            (refines_as e.section front tail rest spare st2 (λ _. tt {0}) (λ n (_ : Unit {0}). Unit {0}) (λ _. (next, b)) _ _ (walks.op_no_output Operation.PcodeOp id vs e st2)
            (user-op-pushed s t e front tail rest we given spare room st2 r.stood id vs (omega arith) q (read_into args 0 vs) (read_values e.section (count st2) vs args 0 long (omega arith) q))
            (push_args (push_user_op (acts e.section front tail rest st2) (read_into args 0 vs) id (length vs) (state_word e.section front tail rest st2)) (temps e.section front tail rest st2) (read_into args 0 vs)))

        go : (y : ArgsRead) (d : List ℕ) (st1 : WordState) (a m : List ℕ) → seen_args_read y ≡ yes d st1 a m → seen_step (begun_in w) (step_args (user_op_read id (length xs) y) (pushed_then next w)) ≡ seen_step (begun_in w) (pushing (length xs) d st1 a m)
        go (args_read (Pushed.Done st3) c u args1) d st1 a m h = unfold seen_args_read user_op_read in (let i : args1 ≡ d = cc in let j : st3 ≡ st1 = cc in let k : c ≡ a = cc in let l : u ≡ m = cc in rw (i, j, k, l))
        go (args_read (Pushed.No n) c u args1) d st1 a m h = unfold seen_args_read in (let z : ◌≡◌ {A = ℕ} 0 1 = cc in absurd (omega arith))

        stays : (y : ArgsRead) (n : ℕ) → seen_args_read y ≡ no n → seen_step (begun_in w) (step_args (user_op_read id (length xs) y) (pushed_then next w)) ≡ no n
        stays (args_read (Pushed.Done st3) c u args1) n h = unfold seen_args_read in (let z : ◌≡◌ {A = ℕ} 0 1 = cc in absurd (omega arith))
        stays (args_read (Pushed.No k) c u args1) n h = unfold seen_args_read user_op_read step_args pushed_then in (let i : k ≡ n = cc in stop_seen k w c u ∙ rw i)

pub filled-long : (xs : List ExprValue) (args : List ℕ) (i : ℕ) → length (filled_args args i xs) ≡ length args
unfolding filled_args
filled-long [] args i = refl
filled-long (x ∷ xs) args i = filled-long xs (put_arg args i (enc_x x)) (suc i) ∙ arg_length args i (enc_x x)

-- a user op called with the arguments that stand at a position
module _ (s t : List ℕ) (e : Env) (p front tail rest : List ℕ) (we : WordEnv) (given : Given s t e front tail rest we) (spare : ℕ) (room : Spare spare tail) (b : Beside)
    (from : State) (stand : Standing t e tail rest we spare p b from)
    (pos n : ℕ) (args : Args) (next : ℕ) (reads : args_of (expr_within (le16 s 2) 32) n (drop (pos + 4) s) ≡ parsed args (drop next s)) (few : n < 9) (starts : pos + 4 ≤ length s) (inside : next ≤ length s) (id : ℕ) where
  abbrev A2 : List ℕ
  A2 = acts e.section front tail rest from

  abbrev M2 : List ℕ
  M2 = temps e.section front tail rest from

  abbrev W2 : WordState
  W2 = state_word e.section front tail rest from

  abbrev ArgsDone : ℕ → List ExprValue → Type 0
  ArgsDone k xs = Each (SoundX e.section k) xs × (length xs ≡ n)

  args_are : Refines e.section front tail rest spare from (λ (vs : List ExprValue). (filled_args (replicate 64 0) 0 vs, next)) ArgsDone (seen_args (resolve_args (resolve_expr 32 s t p we) n 0 (pos + 4) A2 M2 (replicate 64 0) W2)) (expressions.resolve_args args e from)
  args_are =
      let f = below s t e front tail rest we given in
      resolve_args_lem s t e p front tail rest we f given.holds given.ranges spare room given.short 32 (resolve-expr s t e p front tail rest we f given.holds given.ranges spare room given.short 32 (omega arith))
      n 0 (pos + 4) args next (replicate 64 0) reads starts inside from stand.stood stand.scoped

  called_with : (xs : List ExprValue) (st : State) → Stood e.section tail rest spare st → Each (SoundX e.section (count st)) xs → length xs ≡ n
      → Goes e.section front tail rest spare st next b W2.sizing.begun (step_args (user_op_args s t (acts e.section front tail rest st) (temps e.section front tail rest st) (filled_args (replicate 64 0) 0 xs) id n we (state_word e.section front tail rest st)) (pushed_then next (walk_of b W2)))
      (on e (expressions.read_all xs e st) λ vs. walks.op_no_output Operation.PcodeOp id vs)
  called_with xs st f k l =
      rw (← l) (read-pushed s t e front tail rest we given spare room b W2 id next xs (omega arith) (filled_args (replicate 64 0) 0 xs) (filled-long xs (replicate 64 0) 0 ∙ length-replicate {A = ℕ} 64 0)
      (filled_in e.section (count st) xs (replicate 64 0) 0 (omega (arith, length-replicate {A = ℕ} 64 0)) (omega arith) k) st f k)

  pub user-op-steps : Steps t e front tail rest we spare 0 b from next (beside_p p (user_op_statement s t p A2 M2 we pos id n (walk_of b W2))) (d.user_op_statement id args e from)
  unfolding user_op_statement d.user_op_statement
  user-op-steps =
      steps_goes t e front tail rest we spare p b from next W2.sizing.begun _ _ stand refl
      (rw (after_is pos 4 (omega (arith, given.short)) (omega arith))
      (bind_args e.section front tail rest spare spare e from ArgsDone (seen_step W2.sizing.begun) (λ (_ : Unit {0}). (next, b)) (λ n (_ : Unit {0}). Unit {0}) (λ xs e1 st1. on e1 (expressions.read_all xs e1 st1) λ vs. walks.op_no_output Operation.PcodeOp id vs)
      (λ (vs : List ExprValue). (filled_args (replicate 64 0) 0 vs, next)) (resolve_args (resolve_expr 32 s t p we) n 0 (pos + 4) A2 M2 (replicate 64 0) W2) (expressions.resolve_args args e from) _ _
      args_are (λ k a m. stop_seen k (walk_of b W2) a m) λ xs st r q. called_with xs st r.stood q.0 q.1))
