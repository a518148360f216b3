-- Stores: the value is read before the pointer. In all of these s is the stream, t the section's table, p the scope's list,
-- a the actions, m the temporaries, e the environment, st the state, w the walk.
use Rattle.std.specs.Prelude.{ℕ, ◌+◌, List}
use Rattle.access.specs.Le.{le16}
use Rattle.list_values.specs.declared.value.Value.{Value}
use Rattle.list_pushes.specs.declared.push.State.{State}
use Rattle.list_pushes.specs.declared.push.Env.{Env}
use Rattle.list_values.specs.Base.{Listed, listed, then_l}
use Rattle.list_values.specs.Values.{absent, no_output}
use Rattle.list_pushes.specs.Pushes.{push, push_op}
use Rattle.expr_scope.specs.declared.scope.ExprValue.{ExprValue}
use Rattle.expr_reading.specs.Outcomes.{Stated}
use Rattle.expr_reading.specs.Reading.{set_stated, take_stated}
use Rattle.expr_terms.specs.Answers.{on_expr, on_operand, after}
use Rattle.expr_terms.specs.Addresses.{resolve_address}
use Rattle.expr_resolver.specs.Expressions.{expr_value, skip_expr, resolve_expr}
use Rattle.stmt_walk.specs.Outcomes.{Walk}
use Rattle.stmt_walk.specs.Walks.{Stepped, stepped, step_pushed, stop, pushed_then}

unfoldable pub store_stated : List ℕ → List ℕ → List ℕ → Env → Value → ℕ → Walk → Listed Stated → Stepped
store_stated s t a e pointer next w (listed x m) =
    step_pushed (push_op s t a m e 59 0 2 no_output pointer x.v x.st) (pushed_then next w)

unfoldable pub store : List ℕ → List ℕ → List ℕ → List ℕ → Env → Value → ℕ → Value → ℕ → State → Walk → Stepped
store s t a m e pointer size v next st w = store_stated s t a e pointer next w (take_stated s t m v size st)

unfoldable pub register_stated : List ℕ → Value → ℕ → ℕ → Walk → Listed Stated → Stepped
register_stated a pointer size next w (listed x m) =
    then_l (push a 3 0 size 2 absent pointer x.v x.st) λ r b. stepped (pushed_then next w r) b m

unfoldable pub store_register : List ℕ → List ℕ → List ℕ → List ℕ → Value → ℕ → Value → ℕ → State → Walk → Stepped
store_register s t a m pointer size v next st w = register_stated a pointer size next w (set_stated s t m v size st)

unfoldable pub store_at : List ℕ → List ℕ → List ℕ → List ℕ → Env → ExprValue → Value → ℕ → State → Walk → Stepped
store_at s t a m e (ExprValue.RamRef x) v next st w = store s t a m e x.pointer x.size v next st w
store_at s t a m e (ExprValue.RegisterRef x) v next st w = store_register s t a m x.pointer x.size v next st w
store_at s t a m e (ExprValue.Local x) v next st w = stepped (stop 28 w) a m
store_at s t a m e (ExprValue.Unbound x) v next st w = stepped (stop 28 w) a m
store_at s t a m e (ExprValue.Const n z) v next st w = stepped (stop 28 w) a m
store_at s t a m e (ExprValue.Apply operation) v next st w = stepped (stop 28 w) a m
store_at s t a m e (ExprValue.AddressOf x z) v next st w = stepped (stop 28 w) a m
store_at s t a m e (ExprValue.BitRange r) v next st w = stepped (stop 28 w) a m

-- in the space and of the size that stand at a position
unfoldable pub store_in : List ℕ → List ℕ → List ℕ → List ℕ → Env → ℕ → ExprValue → Value → ℕ → State → Walk → Stepped
store_in s t a m e pos x v end st w =
    on_expr (resolve_address s t a m e (le16 s (pos + 1)) (le16 s (pos + 3)) x end st)
    (λ to next st1 b u. store_at s t b u e to v next st1 w)
    (λ n b u. stepped (stop n w) b u)

unfoldable pub store_pointer : List ℕ → List ℕ → List ℕ → List ℕ → List ℕ → Env → ℕ → Value → ℕ → State → Walk → Stepped
store_pointer s t p a m e pos v end st w =
    on_expr (resolve_expr 32 s t p e (after pos 5) a m st)
    (λ x next st1 b u. store_in s t b u e pos x v end st1 w)
    (λ n b u. stepped (stop n w) b u)

-- the value stands behind the pointer
unfoldable pub store_statement : List ℕ → List ℕ → List ℕ → List ℕ → List ℕ → Env → ℕ → Walk → Stepped
store_statement s t p a m e pos w =
    on_operand (expr_value (resolve_expr 32 s t p e) s t e (skip_expr s (after pos 5)) a m w.st)
    (λ v next st b u. store_pointer s t p b u e pos v next st w)
    (λ n b u. stepped (stop n w) b u)
