-- Calls that enter no macro: the delay slot and user ops; and what a macro call is given. In all of these s is the stream, t
-- the section's table, p the scope's list, a the actions, m the temporaries, e the environment, st the state, w the walk.
use Rattle.std.specs.Prelude.{ℕ, zero, suc, ◌+◌, ◌*◌, ◌%◌, List, get_or, set, replicate, eqb}
use Rattle.access.specs.Le.{le16}
use Rattle.list_pushes.specs.declared.push.State.{State}
use Rattle.list_pushes.specs.declared.push.Env.{Env}
use Rattle.list_pushes.specs.Outcomes.{Pushed}
use Rattle.list_values.specs.Base.{Listed, listed, then_l}
use Rattle.prelude.specs.Base.{when◌then◌else◌}
use Rattle.access.specs.Loops.{run}
use Rattle.list_values.specs.Values.{absent, no_output, value_at, put_value}
use Rattle.list_pushes.specs.Pushes.{on_read, on_push, push}
use Rattle.expr_scope.specs.Outcomes.{Args}
use Rattle.expr_scope.specs.Slots.{param_place, arg_at}
use Rattle.expr_scope.specs.Outcomes.{Symbol}
use Rattle.expr_scope.specs.Symbols.{lookup}
use Rattle.expr_reading.specs.Reading.{read_operand}
use Rattle.expr_terms.specs.Answers.{ArgsOut, passed, on_args, after}
use Rattle.expr_terms.specs.Calls.{only_integer}
use Rattle.expr_resolver.specs.Expressions.{resolve_args, resolve_expr}
use Rattle.stmt_walk.specs.Outcomes.{Walk}
use Rattle.stmt_walk.specs.Outcomes.{Step}
use Rattle.stmt_simple.specs.Outcomes.{Called}
use Rattle.stmt_walk.specs.Walks.{Stepped, stepped, stop, pushed_then}

-- of a global: a user op, a macro, or none of these
unfoldable pub symbol_called : Symbol → Called
symbol_called Symbol.Undefined = Called.No 22
symbol_called (Symbol.UserOp id) = Called.UserOp id
symbol_called (Symbol.Macro id) = Called.Macro id
symbol_called (Symbol.Space i) = Called.No 23
symbol_called (Symbol.Register i) = Called.No 23
symbol_called (Symbol.BitRange i) = Called.No 23
symbol_called (Symbol.Table i) = Called.No 23
symbol_called (Symbol.Other i) = Called.No 23

unfoldable pub called_of : List ℕ → List ℕ → ℕ → Called
called_of s t name = when eqb name (le16 s 32) then Called.DelaySlot else symbol_called (lookup t name)

unfoldable pub delay_slot : List ℕ → List ℕ → ℕ → ℕ → Walk → Listed Step
delay_slot s a pos n w =
    when eqb (only_integer s pos n) 1
    then then_l (push a 4 0 0 0 absent absent absent w.st) (λ r b. listed (pushed_then (after pos 13) w r) b)
    else listed (stop 25 w) a

-- an answer, the actions, the temporaries and the words of the arguments
pub data ArgsRead : Type 0 where
  args_read : Pushed → List ℕ → List ℕ → List ℕ → ArgsRead

-- k arguments from number i on, read in place
unfoldable pub read_args : ℕ → ℕ → List ℕ → List ℕ → List ℕ → List ℕ → List ℕ → Env → State → ArgsRead
read_args zero i s t a m args e st = args_read (Pushed.Done st) a m args
read_args (suc k) i s t a m args e st =
    on_read (read_operand s t a m e (arg_at args i) st)
    (λ v st1 b u. read_args k (suc i) s t b u (put_value args (param_place i) 4 v) e st1)
    (λ n b u. args_read (Pushed.No n) b u args)

unfoldable pub write_input : ℕ → List ℕ → ℕ → List ℕ → List ℕ
write_input at args i a = put_value a at (6 + 2 * (i % 8)) (value_at args (param_place i) 4)

-- the operands that n arguments became, as the inputs of the action at a position
unfoldable pub write_inputs : ℕ → List ℕ → ℕ → List ℕ → List ℕ
write_inputs n a at args = run n 0 (write_input at args) a

unfoldable pub push_user_op : List ℕ → List ℕ → ℕ → ℕ → State → Listed Pushed
push_user_op a args id n st =
    on_push (push a 0 63 id n no_output absent absent st)
    (λ st1 b. listed (Pushed.Done st1) (write_inputs n b st.end args))
    (λ k b. listed (Pushed.No k) b)

unfoldable pub user_op_read : ℕ → ℕ → ArgsRead → ArgsRead
user_op_read id n (args_read (Pushed.Done st) a m args) = then_l (push_user_op a args id n st) λ r b. args_read r b m args
user_op_read id n (args_read (Pushed.No k) a m args) = args_read (Pushed.No k) a m args

unfoldable pub user_op_args : List ℕ → List ℕ → List ℕ → List ℕ → List ℕ → ℕ → ℕ → Env → State → ArgsRead
user_op_args s t a m args id n e st = user_op_read id n (read_args n 0 s t a m args e st)

unfoldable pub step_args : ArgsRead → (Pushed → Step) → Stepped
step_args (args_read r a m args) f = stepped (f r) a m

unfoldable pub user_op_statement : List ℕ → List ℕ → List ℕ → List ℕ → List ℕ → Env → ℕ → ℕ → ℕ → Walk → Stepped
user_op_statement s t p a m e pos id n w =
    on_args (resolve_args (resolve_expr 32 s t p e) n 0 (after pos 4) a m (replicate 64 0) w.st)
    (λ next st b u args. step_args (user_op_args s t b u args id n e st) (pushed_then next w))
    (λ k b u. stepped (stop k w) b u)

-- where a macro stands
unfoldable pub macro_at : List ℕ → ℕ → ℕ
macro_at t id = get_or t (3072 + id % 128) 0

-- argument i with the name of parameter i, which stands in a list of names
unfoldable pub bind_name : List ℕ → ℕ → ℕ → List ℕ → List ℕ
bind_name s names i args = set args (param_place i + 0) (le16 s (names + i % 8 * 2))

unfoldable pub bind_names : ℕ → List ℕ → ℕ → List ℕ → List ℕ
bind_names n s names args = run n 0 (bind_name s names) args

-- as many arguments as the macro has parameters
unfoldable pub counted : List ℕ → List ℕ → ℕ → ℕ → ℕ → State → Args
counted s t id n next st = when eqb (get_or s (macro_at t id + 0) 0) n then Args.Done next st else Args.No 26

unfoldable pub macro_counted : List ℕ → List ℕ → ℕ → ℕ → ArgsOut → ArgsOut
macro_counted s t id n (passed (Args.Done next st) a m args) =
    passed (counted s t id n next st) a m (bind_names n s (after (macro_at t id) 1) args)
macro_counted s t id n (passed (Args.No k) a m args) = passed (Args.No k) a m args

-- the arguments of a macro call, as its parameters
unfoldable pub macro_args : List ℕ → List ℕ → List ℕ → List ℕ → List ℕ → List ℕ → Env → ℕ → ℕ → ℕ → State → ArgsOut
macro_args s t p a m args e pos id n st =
    macro_counted s t id n (resolve_args (resolve_expr 32 s t p e) n 0 (after pos 4) a m args st)
