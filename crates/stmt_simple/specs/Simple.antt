-- Statements of one step: unimplemented, the export, locals, and builds. In all of these s is the stream, t the section's
-- table, p the scope's list, a the actions, m the temporaries, e the environment, st the state, w the walk.
use Rattle.std.specs.Prelude.{ℕ, zero, suc, ◌+◌, ◌*◌, ◌%◌, true, List, eqb, ltb}
use Rattle.access.specs.Le.{le16}
use Rattle.list_values.specs.declared.value.Value.{Value}
use Rattle.list_pushes.specs.declared.push.State.{State}
use Rattle.list_pushes.specs.declared.push.Env.{Env}
use Rattle.list_pushes.specs.Outcomes.{Read}
use Rattle.list_values.specs.Base.{Listed, listed, then_l}
use Rattle.prelude.specs.Base.{when◌then◌else◌}
use Rattle.list_values.specs.Values.{absent, no_output}
use Rattle.list_values.specs.Sizes.{entry}
use Rattle.list_pushes.specs.Pushes.{on_read, push, push_op}
use Rattle.expr_scope.specs.declared.scope.ExprValue.{ExprValue}
use Rattle.expr_scope.specs.Outcomes.{Symbol}
use Rattle.expr_scope.specs.Symbols.{lookup}
use Rattle.expr_scope.specs.Scopes.{named_tmp}
use Rattle.expr_reading.specs.Reading.{read_value, read_operand}
use Rattle.expr_terms.specs.Answers.{on_expr, after}
use Rattle.expr_resolver.specs.Expressions.{resolve_expr}
use Rattle.stmt_walk.specs.Outcomes.{Walk}
use Rattle.stmt_walk.specs.Outcomes.{Step}
use Rattle.stmt_walk.specs.Walks.{Stepped, stepped, Walked, walked, step_pushed, step_read, beside_p, stop, pushed_then, read_then}

unfoldable pub unimplemented : List ℕ → List ℕ → List ℕ → List ℕ → Env → ℕ → Walk → Stepped
unimplemented s t a m e pos w =
    step_pushed (push_op s t a m e 65 0 0 no_output absent absent w.st) (pushed_then (after pos 1) w)

abbrev pub exported : ℕ → Value → ℕ → State → ℕ → Walk → Step
exported kind v size st next w = Step.Next next (record {
  st = st;
  labels = w.labels;
  placed = w.placed;
  statements = w.statements;
  export = record { kind = kind; v = v; size = size };
})

unfoldable pub export_value : ℕ → Walk → Read → Step
export_value next w (Read.Value v st) = exported 1 v 0 st next w
export_value next w (Read.No n) = stop n w

unfoldable pub export_read : List ℕ → List ℕ → List ℕ → List ℕ → Env → ExprValue → ℕ → State → Walk → Stepped
export_read s t a m e x next st w = step_read (read_operand s t a m e x st) (export_value next w)

-- a reference stays one, anything else is read
unfoldable pub export_of : List ℕ → List ℕ → List ℕ → List ℕ → Env → ExprValue → ℕ → State → Walk → Stepped
export_of s t a m e (ExprValue.RamRef x) next st w = stepped (exported 2 x.pointer x.size st next w) a m
export_of s t a m e (ExprValue.RegisterRef x) next st w = stepped (exported 3 x.pointer x.size st next w) a m
export_of s t a m e (ExprValue.Local v) next st w = export_read s t a m e (ExprValue.Local v) next st w
export_of s t a m e (ExprValue.Unbound v) next st w = export_read s t a m e (ExprValue.Unbound v) next st w
export_of s t a m e (ExprValue.Const n z) next st w = export_read s t a m e (ExprValue.Const n z) next st w
export_of s t a m e (ExprValue.Apply operation) next st w = export_read s t a m e (ExprValue.Apply operation) next st w
export_of s t a m e (ExprValue.AddressOf v z) next st w = export_read s t a m e (ExprValue.AddressOf v z) next st w
export_of s t a m e (ExprValue.BitRange r) next st w = export_read s t a m e (ExprValue.BitRange r) next st w

unfoldable pub export_statement : List ℕ → List ℕ → List ℕ → List ℕ → List ℕ → Env → ℕ → Walk → Stepped
export_statement s t p a m e pos w =
    on_expr (resolve_expr 32 s t p e (after pos 1) a m w.st)
    (λ x next st b u. export_of s t b u e x next st w)
    (λ n b u. stepped (stop n w) b u)

-- the scope and the temporaries
unfoldable pub local_statement : List ℕ → List ℕ → List ℕ → List ℕ → Env → ℕ → Walk → Stepped
local_statement s t p m e pos w =
    step_read (named_tmp t p m e (le16 s (pos + 1)) (le16 s (pos + 3)) w.st) (read_then (after pos 5) w)

-- an expression at a position read into a target
unfoldable pub assign : List ℕ → List ℕ → List ℕ → List ℕ → List ℕ → Env → ℕ → Value → State → Walk → Stepped
assign s t p a m e pos to st w =
    on_expr (resolve_expr 32 s t p e pos a m st)
    (λ x next st1 b u. step_read (read_value s t b u e x true to st1) (read_then next w))
    (λ n b u. stepped (stop n w) b u)

unfoldable pub local_assignment : List ℕ → List ℕ → List ℕ → List ℕ → List ℕ → Env → ℕ → Walk → Walked
local_assignment s t p a m e pos w =
    on_read (named_tmp t p m e (le16 s (pos + 1)) (le16 s (pos + 3)) w.st)
    (λ v st q u. beside_p q (assign s t q a u e (after pos 5) v st w))
    (λ n q u. walked (stop n w) q a u)

-- the first of k subtables from i on that has this table, or the one behind them
unfoldable pub find_subtable : ℕ → ℕ → List ℕ → List ℕ → ℕ → ℕ
find_subtable zero i s t table = i
find_subtable (suc k) i s t table =
    when eqb (le16 s (entry t 8 (i % 65536 * 4) + 2)) table then i else find_subtable k (suc i) s t table

unfoldable pub build_subtable : ℕ → ℕ → List ℕ → ℕ → Walk → Listed Step
build_subtable i n a pos w =
    when ltb i n
    then then_l (push a 5 0 i 0 absent absent absent w.st) (λ r b. listed (pushed_then (after pos 3) w r) b)
    else listed (stop 24 w) a

unfoldable pub build_table : List ℕ → List ℕ → List ℕ → ℕ → ℕ → Walk → Listed Step
build_table s t a table pos w = build_subtable (find_subtable (le16 s 20) 0 s t table) (le16 s 20) a pos w

unfoldable pub build_symbol : Symbol → List ℕ → List ℕ → List ℕ → ℕ → Walk → Listed Step
build_symbol Symbol.Undefined s t a pos w = listed (stop 22 w) a
build_symbol (Symbol.Table i) s t a pos w = build_table s t a i pos w
build_symbol (Symbol.Space i) s t a pos w = listed (stop 23 w) a
build_symbol (Symbol.Register i) s t a pos w = listed (stop 23 w) a
build_symbol (Symbol.BitRange i) s t a pos w = listed (stop 23 w) a
build_symbol (Symbol.UserOp i) s t a pos w = listed (stop 23 w) a
build_symbol (Symbol.Macro i) s t a pos w = listed (stop 23 w) a
build_symbol (Symbol.Other i) s t a pos w = listed (stop 23 w) a

unfoldable pub build : List ℕ → List ℕ → List ℕ → ℕ → Walk → Listed Step
build s t a pos w = build_symbol (lookup t (le16 s (pos + 1))) s t a pos w
