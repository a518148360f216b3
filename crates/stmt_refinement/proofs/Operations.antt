-- Operations with no output: the words push the action that the definition pushes, sized by the same rule.
use Prim.Native.Nat.{ℕ, suc, ◌+◌, ◌^◌, ◌≤◌, ◌<◌}
use mathlib.Core.Path.{◌≡◌, refl}
use mathlib.Core.Bool.{false}
use mathlib.Core.List.{List}
use mathlib.Core.Option.{none}
use native.Mathlib.Omega.{arith}
use lib.ListN.{length}
use Rattle.definition.specs.Operations.{Operation, operation_number, is_op}
use Rattle.definition.specs.Value.{Value, SemanticAction}
use Rattle.definition.specs.Sizes as sizes
use Rattle.definition.specs.Sizes.{pointer_size}
use Rattle.definition.specs.Walk as d
use Rattle.definition.specs.Walk.{State, Env}
use Rattle.list_pushes.specs.declared.push.Env.{Env as WordEnv}
use Rattle.list_pushes.specs.Pushes.{push_op}
use Rattle.list_values.specs.Values.{no_output}
use Rattle.list_refinement.proofs.Seen.{seen_pushed}
use Rattle.list_refinement.specs.Encoding.{Sound, Each, SoundAction, SizesHold, first_of, second_of, output_of, Lent}
use Rattle.list_refinement.proofs.After.{After}
use Rattle.list_refinement.proofs.Pushes.{update_after, push-op_is, push-op-done, Stands}
use Rattle.expr_refinement.proofs.Answers.{acts, temps, word, Refines, refines_map}
use Rattle.expr_refinement.proofs.Below.{Spare}
use Rattle.expr_refinement.proofs.Pushing.{pushed_state, update_keeps, push-op_halts, no_label}
use Rattle.list_refinement.specs.RuleKinds.{kind_of, Operands}
use Rattle.expr_refinement.specs.Encoding.{count, Stood, op_action}

module _ (s t : List ℕ) (e : Env) (front tail rest : List ℕ) (we : WordEnv) (lent : Lent e front tail rest) (holds : SizesHold s t e.section) (pointer_is : we.pointer ≡ pointer_size e.section) where
  stands : (spare : ℕ) (st : State) → Stood e.section tail rest spare st → Stands tail rest st
  stands spare st f = record { actions = f.actions; temporaries = f.temporaries; sizes = f.sizes }

  pub no_output_lem : (spare : ℕ) (st : State) → Spare spare tail → Stood e.section tail rest (suc spare) st → (op : Operation) (n : ℕ) (vs : List Value) → length vs ≤ 2 → Each (Sound e.section (count st)) vs → Operands (kind_of op) (op_action op n vs none) → is_op Operation.PcodeLabel op ≡ false
      → Refines e.section front tail rest spare st (λ _. tt {0}) (λ n (_ : Unit {0}). Unit {0})
      (seen_pushed (push_op s t (acts e.section front tail rest st) (temps e.section front tail rest st) we (operation_number op) n (length vs) no_output (first_of vs) (second_of vs) (word e.section front tail rest st))) (d.op_no_output op n vs e st)
  unfolding d.op_no_output output_of
  no_output_lem spare st room f op n vs few g operands plain =
      let k : SoundAction e.section (count st) (op_action op n vs none) = record { inputs = g; output = tt } in
      let l : length st.sizing.errors + 3 < 2 ^ 64 = (let a = f.errors in let b = f.actions in omega arith) in
      let after : After e.section 3 (op_action op n vs none) st.sizing (sizes.update_operand_sizes e.section false (op_action op n vs none) st.sizing).0 (sizes.update_operand_sizes e.section false (op_action op n vs none) st.sizing).1 = update_after e st front tail rest lent (stands (suc spare) st f) s t holds we pointer_is op n vs few none k operands l in
      refines_map e.section front tail rest spare e st (λ (_ : SemanticAction). tt {0}) (λ m (a : SemanticAction). Unit {0}) (λ _. tt {0}) (λ n (_ : Unit {0}). Unit {0}) (λ _. tt) _ (d.push_op op n vs none e st)
      (record {
        same = push-op_is e st front tail rest lent (stands (suc spare) st f) s t holds we pointer_is op n vs few none k operands l;
        goes = λ a u q.
            let j = push-op-done e st front tail rest lent (stands (suc spare) st f) s t holds we pointer_is op n vs few none k operands l a u q in
            (pushed_state s t e front tail rest we lent holds pointer_is (suc spare) spare st f (sizes.update_operand_sizes e.section false (op_action op n vs none) st.sizing).0 (sizes.update_operand_sizes e.section false (op_action op n vs none) st.sizing).1 after.action (no_label _ op after.kind plain) after.count after.temporaries (update_keeps e.section false (op_action op n vs none) st.sizing) (omega (arith, f.errors, after.errors)) u j.1 j.2.actions, tt);
        stops = push-op_halts e st op n vs none;
      }) (λ a. refl) (λ m a h. tt)
