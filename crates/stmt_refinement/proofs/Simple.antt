-- Statements of one step that declare nothing: unimplemented, the export and builds.
use Prim.Native.Nat.{ℕ, suc, ◌+◌, ◌≤◌}
use mathlib.Core.Path.{◌≡◌, refl}
use mathlib.Core.List.{List, []}
use mathlib.Core.Option.{none}
use native.Mathlib.Omega.{arith}
use lib.ListN.{length}
use borrow.Author.Tests.{eq-eqb}
use Rattle.access.specs.Le.{le16}
use Rattle.definition.specs.Operations.{Operation, operation_number}
use Rattle.definition.specs.Value.{Value, ExportKind, Export}
use Rattle.definition.specs.Ast.{Statement}
use Rattle.definition.specs.Walk.{ExprValue, State, Env, Outcome, done, on}
use Rattle.definition.specs.Walk as walks
use Rattle.definition.specs.Expressions as expressions
use Rattle.definition.specs.Statements as d
use Rattle.definition.specs.ActionList.{or_none, export_kind_number}
use Rattle.list_values.specs.declared.value.Value.{Value as WordValue}
use Rattle.list_pushes.specs.declared.push.State.{State as WordState}
use Rattle.list_pushes.specs.declared.push.Env.{Env as WordEnv}
use Rattle.list_pushes.specs.Outcomes.{Read}
use Rattle.list_pushes.specs.Pushes.{ReadOut, read}
use Rattle.file_refinement.proofs.Inversion.{ExportAt}
use Rattle.list_refinement.specs.Encoding.{enc_v, Sound, first_of, second_of}
use Rattle.list_refinement.proofs.Seen.{seen_read}
use Rattle.expr_terms.specs.Answers.{after}
use Rattle.expr_reading.specs.Reading.{read_operand}
use Rattle.stmt_walk.specs.Outcomes.{Walk}
use Rattle.stmt_walk.specs.Walks.{Stepped, step_read}
use Rattle.stmt_simple.specs.Simple.{unimplemented, export_value, export_read, export_of, export_statement}
use Rattle.expr_refinement.proofs.Encodings.{stood_more}
use Rattle.expr_refinement.proofs.Answers.{bind_expr, acts, temps, word, Refines, refines_done, refines_map}
use Rattle.expr_refinement.proofs.Below.{Spare}
use Rattle.expr_refinement.proofs.Reading.{read-operand}
use Rattle.expr_refinement.proofs.Expressions.{after_is}
use Rattle.stmt_refinement.proofs.Views.{seen_step, begun_in, stop_seen, map_seen, with_exported, refines_as, Goes, step_pushed_lem}
use Rattle.stmt_refinement.proofs.Operations.{no_output_lem}
use Rattle.stmt_refinement.proofs.Given.{below, expression}
use Rattle.list_refinement.specs.RuleKinds.{kind_of}
use Rattle.expr_refinement.specs.Encoding.{enc_x, SoundX, count, Stood, Scoped}
use Rattle.stmt_refinement.specs.Standing.{Beside, Given, walk_of, SoundExport}

abbrev computed : Value → Export
computed v = record { kind = ExportKind.PlainValue; value = v; access_size = 0 }

abbrev computed_in : Walk → WordValue → Beside
computed_in w v = record { labels = w.labels; placed = w.placed; statements = w.statements; export = record { kind = 1; v = v; size = 0 } }

export_seen : (x : ReadOut) (next : ℕ) (w : Walk) → seen_step (begun_in w) (step_read x (export_value next w)) ≡ map_seen (λ v. (next, computed_in w v)) (seen_read x)
unfolding seen_step step_read export_value map_seen seen_read
export_seen (read (Read.Value v st) a m) next w = refl
export_seen (read (Read.No n) a m) next w = rw (eq-eqb (begun_in w) (begun_in w) refl)

module _ (s t : List ℕ) (e : Env) (front tail rest : List ℕ) (we : WordEnv) (given : Given s t e front tail rest we) (spare : ℕ) (room : Spare spare tail) (b : Beside) where
  abbrev A : State → List ℕ
  A st = acts e.section front tail rest st

  abbrev M : State → List ℕ
  M st = temps e.section front tail rest st

  abbrev W : State → WordState
  W st = word e.section front tail rest st

  abbrev Stands : State → Type 0
  Stands st = Stood e.section tail rest spare st

  pub unimplemented_is : (st : State) → Stands st → (pos : ℕ)
      → Goes e.section front tail rest spare st (after pos 1) b (or_none st.sizing.begun) (unimplemented s t (A st) (M st) we pos (walk_of b (W st))) (walks.op_no_output Operation.Invalid 0 [] e st)
  unfolding unimplemented
  unimplemented_is st f pos =
      step_pushed_lem e.section front tail rest spare st _ _ (after pos 1) (walk_of b (W st))
      (unfold operation_number first_of second_of kind_of in no_output_lem s t e front tail rest we given.lent given.sizes given.pointer spare st room (stood_more (suc spare) (omega arith) f) Operation.Invalid 0 [] (omega arith) tt tt refl)

  -- the export, beside a state that has it not yet
  abbrev pub Exports : State → ℕ → ℕ → Stepped → Outcome Export → Type 0
  Exports st next begun x o = Refines e.section front tail rest spare st (λ (x : Export). (next, with_exported x b)) (SoundExport e.section) (seen_step begun x) o

  module _ (from : State) (next : ℕ) where
    abbrev w : Walk
    w = walk_of b (W from)

    read-export : (st : State) → Stands st → (x : ExprValue) → SoundX e.section (count st) x
        → Exports st next (begun_in w) (export_read s t (A st) (M st) we (enc_x x) next (W st) w) (on e (expressions.read_value x none e st) λ v. λ e1 st1. done (computed v) st1)
    unfolding export_read export_kind_number
    read-export st f x h =
        refines_map e.section front tail rest spare e st (λ (v : Value). (next, computed_in w (enc_v v))) (Sound e.section) (λ (x : Export). (next, with_exported x b)) (SoundExport e.section) computed _ (expressions.read_value x none e st)
        (refines_as e.section front tail rest spare st enc_v (Sound e.section) (λ v. (next, computed_in w v)) (seen_read (read_operand s t (A st) (M st) we (enc_x x) (W st))) _ (expressions.read_value x none e st)
        (read-operand s t e front tail rest we (below s t e front tail rest we given) spare room st f x h) (export_seen (read_operand s t (A st) (M st) we (enc_x x) (W st)) next w))
        (λ v. refl) (λ n v g. record { value = g; size = omega arith })

    export_of_lem : (st : State) → Stands st → (x : ExprValue) → SoundX e.section (count st) x
        → Exports st next (begun_in w) (export_of s t (A st) (M st) we (enc_x x) next (W st) w) (d.export_of x (d.as_reference x) e st)
    unfolding export_of d.export_of d.exported d.as_reference export_kind_number enc_x seen_step
    export_of_lem st f (ExprValue.RamRef v z) h = refines_done e.section front tail rest spare st (λ (x : Export). (next, with_exported x b)) (SoundExport e.section) (record { kind = ExportKind.RamRef; value = v; access_size = z }) (next, with_exported (record { kind = ExportKind.RamRef; value = v; access_size = z }) b) f (record { value = h.0; size = h.1 }) refl
    export_of_lem st f (ExprValue.RegisterRef v z) h = refines_done e.section front tail rest spare st (λ (x : Export). (next, with_exported x b)) (SoundExport e.section) (record { kind = ExportKind.RegisterRef; value = v; access_size = z }) (next, with_exported (record { kind = ExportKind.RegisterRef; value = v; access_size = z }) b) f (record { value = h.0; size = h.1 }) refl
    export_of_lem st f (ExprValue.Local v) h = read-export st f (ExprValue.Local v) h
    export_of_lem st f (ExprValue.Unbound v) h = read-export st f (ExprValue.Unbound v) h
    export_of_lem st f (ExprValue.Const n z) h = read-export st f (ExprValue.Const n z) h
    export_of_lem st f (ExprValue.Apply op n vs) h = read-export st f (ExprValue.Apply op n vs) h
    export_of_lem st f (ExprValue.AddressOf v z) h = read-export st f (ExprValue.AddressOf v z) h
    export_of_lem st f (ExprValue.BitRange v from bits) h = read-export st f (ExprValue.BitRange v from bits) h

  pub export_is : (p : List ℕ) (st : State) → Stands st → Scoped t p we st → (pos : ℕ) → pos + 1 ≤ length s → (x : Statement) (u : List ℕ) (i : ExportAt s (le16 s 2) pos x u)
      → Exports st i.value_end (or_none st.sizing.begun) (export_statement s t p (A st) (M st) we pos (walk_of b (W st))) (on e (expressions.resolve_expr i.value e st) λ x. d.export_of x (d.as_reference x))
  unfolding export_statement
  export_is p st f c pos l x u i =
      rw (after_is pos 1 (omega (arith, given.short)) (omega arith))
      (bind_expr e.section front tail rest spare spare e st (SoundX e.section) (seen_step (or_none st.sizing.begun)) (λ (x : Export). (i.value_end, with_exported x b)) (SoundExport e.section) (λ x. d.export_of x (d.as_reference x)) (λ (x : ExprValue). (enc_x x, i.value_end)) _ _ _ _
      (expression s t e front tail rest we given p spare room (pos + 1) i.value i.value_end i.value_reads i.value_inside st f c) (λ n a m. stop_seen n (walk_of b (W st)) a m)
      λ x st1 r h. export_of_lem st i.value_end st1 r.stood x h)
