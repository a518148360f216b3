-- Call statements that enter no macro, as steps: the delay slot, user ops, and names that are unknown or of another kind.
use Prim.Native.Nat.{ℕ, ◌+◌, ◌≤◌, ◌<◌}
use mathlib.Core.Path.{◌≡◌, refl, sym, subst}
use mathlib.Core.Bool.{Bool, true, false}
use mathlib.Core.List.{List, []}
use mathlib.Core.Option.{Option, none, some}
use native.Mathlib.Omega.{arith}
use lib.ListN.{length, get_or, drop}
use lib.Dec.{eqb}
use borrow.Author.Tests.{ne_eqb}
use Rattle.access.specs.Le.{le16}
use Rattle.prelude.specs.Base as definition
use Rattle.prelude.specs.Base.{when◌then◌else◌}
use Rattle.definition.specs.Refusals.{Refusal, refusal_number, undefined, wrong_kind, delay_slot_argument}
use Rattle.definition.specs.Value.{ActionKind, SemanticAction, operation_of}
use Rattle.definition.specs.Ast.{Args, Statement, Macro}
use Rattle.definition.specs.SectionFile.{parsed, expr_within, args_of, statement}
use Rattle.definition.specs.Walk as walks
use Rattle.definition.specs.Walk.{ExprValue, State, Env, Outcome, stopped, on, require, expect}
use Rattle.definition.specs.Scope.{find, Symbol, globals, lookup}
use Rattle.definition.specs.Expressions as expressions
use Rattle.definition.specs.Statements as d
use Rattle.definition.specs.ActionList.{or_none, action_kind_number, operation_word}
use Rattle.list_pushes.specs.declared.push.Env.{Env as WordEnv}
use Rattle.list_values.specs.Base.{Listed, listed, then_l}
use Rattle.list_pushes.specs.Pushes.{push}
use Rattle.list_values.specs.Values.{absent}
use Rattle.file_refinement.proofs.Inversion.{CallStatementAt, call-statement_at}
use Rattle.list_refinement.proofs.Seen.{seen_push}
use Rattle.expr_terms.specs.Answers.{after}
use Rattle.expr_terms.specs.Calls.{only_integer}
use Rattle.stmt_walk.specs.Outcomes.{Walk}
use Rattle.stmt_walk.specs.Outcomes.{Step}
use Rattle.stmt_walk.specs.Walks.{Stepped, stepped, beside_p, stop, pushed_then}
use Rattle.stmt_simple.specs.Outcomes.{Called}
use Rattle.stmt_simple.specs.Calls.{symbol_called, called_of, delay_slot, user_op_statement}
use Rattle.stmt_bodies.specs.Statements.{Enter, call_named, call_statement}
use Rattle.expr_refinement.proofs.Encodings.{stood_more}
use Rattle.expr_refinement.proofs.Answers.{acts, temps, word, Refines}
use Rattle.expr_refinement.proofs.Below.{Spare}
use Rattle.expr_refinement.proofs.Calls.{Only}
use Rattle.expr_refinement.proofs.Positions.{drop_same}
use Rattle.expr_refinement.proofs.Pushing.{no_operation_lem}
use Rattle.expr_refinement.proofs.Scopes.{lookup_is}
use Rattle.expr_refinement.proofs.Expressions.{only_integer_lem}
use Rattle.stmt_refinement.proofs.Views.{step_stops, Goes, step_push}
use Rattle.stmt_refinement.proofs.Given.{below}
use Rattle.stmt_refinement.proofs.Steps.{Steps}
use Rattle.stmt_refinement.proofs.Stepping.{steps_goes}
use Rattle.stmt_refinement.proofs.Ends.{call-inside}
use Rattle.stmt_refinement.proofs.UserOps.{user-op-steps}
use Rattle.list_refinement.specs.Encoding.{first_of, second_of, output_of}
use Rattle.expr_refinement.specs.Encoding.{enc_symbol}
use Rattle.stmt_refinement.specs.Standing.{Beside, Given, walk_of, Standing}

-- whether a macro is called
unfoldable pub is_macro : Called → Bool
is_macro Called.DelaySlot = false
is_macro (Called.UserOp id) = false
is_macro (Called.Macro id) = true
is_macro (Called.No n) = false

module _ (s t : List ℕ) (e : Env) (p front tail rest : List ℕ) (we : WordEnv) (given : Given s t e front tail rest we) (spare : ℕ) (room : Spare spare tail) (b : Beside)
    (from : State) (stand : Standing t e tail rest we spare p b from) (pos next : ℕ) where
  abbrev A : List ℕ
  A = acts e.section front tail rest from

  abbrev M : List ℕ
  M = temps e.section front tail rest from

  abbrev w : Walk
  w = walk_of b (word e.section front tail rest from)

  abbrev Ends : Stepped → Outcome (Unit {0}) → Type 0
  Ends x o = Steps t e front tail rest we spare 0 b from next (beside_p p x) o

  goes : (x : Stepped) (o : Outcome (Unit {0})) → Goes e.section front tail rest spare from next b (or_none from.sizing.begun) x o → Ends x o
  goes x o h = steps_goes t e front tail rest we spare p b from next (or_none from.sizing.begun) x o stand refl h

  stops : (n : ℕ) (r : Refusal) → n ≡ refusal_number r → Ends (stepped (stop n w) A M) (stopped r from.sizing.begun 0)
  stops n r h = goes _ _ (step_stops e.section front tail rest spare from _ _ w A M n r h)

  abbrev delaying : SemanticAction
  delaying = record { kind = ActionKind.DelaySlot; number = 0; inputs = []; output = none }

  -- The delay slot: its one argument is the number 1.

  -- where only the actions are lent
  abbrev Delays : Listed Step → Outcome (Unit {0}) → Type 0
  Delays x o = Ends (then_l x (λ r c. stepped r c M)) o

  abbrev delay_or : Bool → ℕ → Listed Step
  delay_or c end = when c then then_l (push A 4 0 0 0 absent absent absent w.st) (λ r c. listed (pushed_then end w r) c) else listed (stop 25 w) A

  delay_pushed : Refines e.section front tail rest spare from (λ _. tt {0}) (λ n (_ : Unit {0}). Unit {0}) (seen_push M (push A 4 0 0 0 absent absent absent w.st)) (walks.push delaying e from)
  unfolding action_kind_number operation_word operation_of output_of first_of second_of
  delay_pushed = (below s t e front tail rest we given).pushes spare from room (stood_more (4 + spare) (omega arith) stand.stood) delaying (omega arith) (record { inputs = tt; output = tt }) (no_operation_lem _ refl)

  delayed : (c : Bool) → Delays (delay_or c next) (on e (require c delay_slot_argument e from) λ _. walks.push delaying)
  unfolding require on
  delayed true = goes _ _ (step_push e.section front tail rest spare from _ M _ next w delay_pushed)
  delayed false = unfold then_l in stops 25 delay_slot_argument (unfold refusal_number in refl)

  delay_by : (o : Option ℕ) (offset end : ℕ) → Only o offset end next → Delays (delay_or (eqb offset 1) end) (d.delay_slot o e from)
  unfolding d.delay_slot expect on
  delay_by none offset end h = rw (ne_eqb offset 1 (λ q. omega arith)) (unfold then_l in stops 25 delay_slot_argument (unfold refusal_number in refl))
  delay_by (some k) offset end h = rw (h.0, h.1) (delayed (eqb k 1))

  module _ (args : Args) (reads : args_of (expr_within (le16 s 2) 32) (get_or s (pos + 3) 0) (drop (pos + 4) s) ≡ parsed args (drop next s)) (known : le16 s (pos + 1) < le16 s 2) (few : get_or s (pos + 3) 0 < 9) (starts : pos + 4 ≤ length s) (inside : next ≤ length s) where
    abbrev name : ℕ
    name = le16 s (pos + 1)

    abbrev n : ℕ
    n = get_or s (pos + 3) 0

    delay_steps : Ends (then_l (delay_slot s A pos n w) (λ r c. stepped r c M)) (d.delay_slot (expressions.only_integer args) e from)
    unfolding delay_slot
    delay_steps = delay_by (expressions.only_integer args) (only_integer s pos n) (after pos 13) (only_integer_lem s (le16 s 2) 32 pos n args next starts given.short inside reads)

    user-op : (id : ℕ) → Ends (user_op_statement s t p A M we pos id n w) (d.user_op_statement id args e from)
    user-op id = user-op-steps s t e p front tail rest we given spare room b from stand pos n args next reads few starts inside id

    module _ (enter : ℕ → Macro → List ExprValue → walks.Walk (Unit {0})) (into : Enter) where
      abbrev Called_as : Called → Outcome (Unit {0}) → Type 0
      Called_as c o = Ends (call_named into c s t p A M we pos n w) o

      wrong_kind_lem : Called_as (Called.No 23) (stopped wrong_kind from.sizing.begun 0)
      wrong_kind_lem = unfold call_named in stops 23 wrong_kind (unfold refusal_number in refl)

      by_symbol : (o : Option Symbol) → is_macro (symbol_called (enc_symbol o)) ≡ false → Called_as (symbol_called (enc_symbol o)) (d.symbol_statement enter args o e from)
      unfolding enc_symbol symbol_called d.symbol_statement
      by_symbol none c = unfold call_named in stops 22 undefined (unfold refusal_number in refl)
      by_symbol (some (Symbol.Space i x)) c = wrong_kind_lem
      by_symbol (some (Symbol.Register i x)) c = wrong_kind_lem
      by_symbol (some (Symbol.BitRange i x)) c = wrong_kind_lem
      by_symbol (some (Symbol.Table i x)) c = wrong_kind_lem
      by_symbol (some (Symbol.UserOp i)) c = unfold call_named in user-op i
      by_symbol (some (Symbol.Macro i x)) c = let z : true ≡ false = unfold is_macro in c in let y : ◌≡◌ {A = ℕ} 0 1 = cc in absurd (omega arith)
      by_symbol (some (Symbol.Other i)) c = wrong_kind_lem

      by_name : (a : Bool) → is_macro (when a then Called.DelaySlot else symbol_called (enc_symbol (find name (globals e.section)))) ≡ false
          → Called_as (when a then Called.DelaySlot else symbol_called (enc_symbol (find name (globals e.section))))
          ((definition.when◌then◌else◌ a (d.delay_slot (expressions.only_integer args)) (λ e1 st1. on e1 (lookup name e1 st1) (d.symbol_statement enter args))) e from)
      unfolding lookup on
      by_name true c = unfold call_named in delay_steps
      by_name false c = by_symbol (find name (globals e.section)) c

      call-steps : is_macro (called_of s t name) ≡ false → Ends (call_statement into s t p A M we pos w) (d.call_statement enter name args e from)
      unfolding call_statement called_of d.call_statement on
      call-steps c =
          let holds = given.holds in
          let g = lookup_is s t e.section holds name (omega (arith, holds.limits.names)) in
          rw (g, ← holds.delay_slot) (by_name (eqb name e.section.header.delay_slot) (rw (g, ← holds.delay_slot) at c))

-- A call statement at its position, whose name is no macro's.
module _ (s t : List ℕ) (e : Env) (p front tail rest : List ℕ) (we : WordEnv) (given : Given s t e front tail rest we) (spare : ℕ) (room : Spare spare tail) (b : Beside)
    (from : State) (stand : Standing t e tail rest we spare p b from) (enter : ℕ → Macro → List ExprValue → walks.Walk (Unit {0})) (into : Enter) (pos : ℕ) (x : Statement) (next : ℕ) where
  abbrev Calling : Statement → ℕ → Type 0
  Calling y end = Steps t e front tail rest we spare 0 b from end (beside_p p (call_statement into s t p (acts e.section front tail rest from) (temps e.section front tail rest from) we pos (walk_of b (word e.section front tail rest from)))) (d.resolve_statement enter y e from)

  call-read : CallStatementAt s (le16 s 2) pos x (drop next s) → pos + 4 ≤ length s → next ≤ length s → is_macro (called_of s t (le16 s (pos + 1))) ≡ false → Calling x next
  call-read i starts inside c =
      let k = drop_same s next i.args_end inside i.args_inside i.rest in
      subst (λ (n : ℕ). Calling x n) (sym k) (subst (λ (y : Statement). Calling y i.args_end) (sym i.is) calls)
    where
      calls : Calling (Statement.Call (le16 s (pos + 1)) i.args) i.args_end
      calls = unfold d.resolve_statement in call-steps s t e p front tail rest we given spare room b from stand pos i.args_end i.args i.args_reads i.name_below i.count-below starts i.args_inside enter into c

  pub other_call-steps : statement (le16 s 2) (drop pos s) ≡ parsed x (drop next s) → next ≤ length s → get_or s pos 0 ≡ 7 → is_macro (called_of s t (le16 s (pos + 1))) ≡ false → Calling x next
  other_call-steps reads inside code c = call-read (call-statement_at s (le16 s 2) pos x (drop next s) code reads) (call-inside s (le16 s 2) pos x next reads inside code) inside c
