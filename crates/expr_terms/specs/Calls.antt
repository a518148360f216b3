-- Calls in expressions: built-in functions come before any symbol, then user ops; the rest is a subpiece of a local. In all
-- of these s is the stream, t the section's table, p the scope's list, a the actions, m the temporaries, e the environment,
-- st the state.
use Rattle.std.specs.Prelude.{ℕ, zero, suc, ◌+◌, ◌-◌, ◌%◌, Bool, false, List, get_or, eqb, ltb}
use Rattle.access.specs.Le.{le64}
use Rattle.expr_inbuilts.specs.Outcomes.{Inbuilt}
use Rattle.expr_inbuilts.specs.Inbuilts.{inbuilt_at}
use Rattle.list_values.specs.declared.value.Value.{Value}
use Rattle.list_pushes.specs.declared.push.State.{State}
use Rattle.list_pushes.specs.declared.push.Env.{Env}
use Rattle.list_pushes.specs.Outcomes.{Read}
use Rattle.list_pushes.specs.Outcomes.{Pushed}
use Rattle.prelude.specs.Base.{when◌then◌else◌}
use Rattle.list_values.specs.Values.{absent, no_output}
use Rattle.list_pushes.specs.Pushes.{PushedOut, pushed, push_op, on_read, on_pushed}
use Rattle.expr_scope.specs.declared.scope.ExprValue.{ExprValue}
use Rattle.expr_scope.specs.Outcomes.{Meaning, Symbol}
use Rattle.expr_terms.specs.Outcomes.{Expr}
use Rattle.expr_terms.specs.Outcomes.{Callee}
use Rattle.expr_scope.specs.Slots.{arg_at}
use Rattle.expr_scope.specs.Symbols.{lookup}
use Rattle.expr_scope.specs.Scopes.{resolve_ident}
use Rattle.expr_reading.specs.Reading.{read_operand}
use Rattle.expr_terms.specs.Answers.{ExprOut, resolved, expr_of, after}

-- of a global: a user op, a macro, which is refused, or none of these
unfoldable pub symbol_called : Symbol → Callee
symbol_called (Symbol.UserOp id) = Callee.UserOp id
symbol_called (Symbol.Macro id) = Callee.No 34
symbol_called Symbol.Undefined = Callee.Local
symbol_called (Symbol.Space i) = Callee.Local
symbol_called (Symbol.Register i) = Callee.Local
symbol_called (Symbol.BitRange i) = Callee.Local
symbol_called (Symbol.Table i) = Callee.Local
symbol_called (Symbol.Other i) = Callee.Local

unfoldable pub inbuilt_or : Inbuilt → Symbol → ℕ → Callee
inbuilt_or f x n =
    when eqb f.arguments 0 then symbol_called x
    else when eqb f.arguments n then Callee.Inbuilt f
    else Callee.No 33

-- the built-in spellings come before any symbol
unfoldable pub callee_of : List ℕ → List ℕ → ℕ → ℕ → Callee
callee_of s t name n = inbuilt_or (inbuilt_at s (get_or t (name % 1024) 0)) (lookup t name) n

-- an argument, followed by its Arg
unfoldable pub pass_arg : List ℕ → List ℕ → List ℕ → List ℕ → ExprValue → ℕ → Env → State → PushedOut
pass_arg s t a m x i e st =
    on_read (read_operand s t a m e x st)
    (λ v st1 b w. push_op s t b w e 64 i 1 no_output v absent st1)
    (λ n b w. pushed (Pushed.No n) b w)

-- k arguments from number i on
unfoldable pub pass_from : ℕ → ℕ → List ℕ → List ℕ → List ℕ → List ℕ → List ℕ → Env → State → PushedOut
pass_from zero i s t a m args e st = pushed (Pushed.Done st) a m
pass_from (suc k) i s t a m args e st =
    on_pushed (pass_arg s t a m (arg_at args i) (i - 2) e st)
    (λ st1 b w. pass_from k (suc i) s t b w args e st1)
    (λ n b w. pushed (Pushed.No n) b w)

-- the arguments from the third on
unfoldable pub pass_args : List ℕ → List ℕ → List ℕ → List ℕ → List ℕ → ℕ → Env → State → PushedOut
pass_args s t a m args n e st = pass_from (n - 2) 2 s t a m args e st

abbrev pub applied : ℕ → ℕ → ℕ → Value → Value → ℕ → State → Expr
applied op number count a b next st = Expr.Value next (ExprValue.Apply (record { code = op; number = number; count = count; first = a; second = b })) st

unfoldable pub user_op_two : List ℕ → List ℕ → List ℕ → List ℕ → List ℕ → ℕ → ℕ → Value → Env → State → ExprOut
user_op_two s t a m args id next v e st =
    on_read (read_operand s t a m e (arg_at args 1) st)
    (λ u st1 b w. resolved (applied 63 id 2 v u next st1) b w)
    (λ n b w. resolved (Expr.No n) b w)

unfoldable pub user_op_some : List ℕ → List ℕ → List ℕ → List ℕ → List ℕ → ℕ → ℕ → ℕ → Env → State → ExprOut
user_op_some s t a m args n id next e st =
    on_read (read_operand s t a m e (arg_at args 0) st)
    (λ v st1 b w. when ltb 1 n then user_op_two s t b w args id next v e st1 else resolved (applied 63 id 1 v absent next st1) b w)
    (λ k b w. resolved (Expr.No k) b w)

-- a user op of n arguments that are resolved
unfoldable pub call_user_op : List ℕ → List ℕ → List ℕ → List ℕ → List ℕ → ℕ → ℕ → ℕ → Env → State → ExprOut
call_user_op s t a m args n id next e st =
    on_pushed (pass_args s t a m args n e st)
    (λ st1 b w. when eqb n 0 then resolved (applied 63 id 0 absent absent next st1) b w else user_op_some s t b w args n id next e st1)
    (λ k b w. resolved (Expr.No k) b w)

-- whether a call at a position has one argument, which is an integer
unfoldable pub one_integer : List ℕ → ℕ → ℕ → Bool
one_integer s pos n = when eqb n 1 then eqb (get_or s (pos + 4) 0) 1 else false

-- the number that is the one argument of a call at a position, or 2^64 - 1
unfoldable pub only_integer : List ℕ → ℕ → ℕ → ℕ
only_integer s pos n =
    when eqb n 1
    then (when eqb (get_or s (pos + 4) 0) 1 then le64 s (after pos 5) else 18446744073709551615)
    else 18446744073709551615

unfoldable pub subpiece_from : ℕ → ℕ → Value → State → Expr
subpiece_from offset next v st = when ltb 255 offset then Expr.No 35 else applied 66 offset 1 v absent next st

unfoldable pub subpiece_of : List ℕ → ℕ → ℕ → Read → Expr
subpiece_of s pos n (Read.Value v st) = subpiece_from (only_integer s pos n) (after pos 13) v st
subpiece_of s pos n (Read.No k) = Expr.No k

unfoldable pub subpiece_meant : Meaning → List ℕ → List ℕ → List ℕ → List ℕ → ℕ → ℕ → Env → State → ExprOut
subpiece_meant (Meaning.Means x) s t a m pos n e st = expr_of (read_operand s t a m e x st) (subpiece_of s pos n)
subpiece_meant (Meaning.Wrong k) s t a m pos n e st = resolved (Expr.No k) a m

-- a call of a local: part of it, from a byte on
unfoldable pub subpiece : List ℕ → List ℕ → List ℕ → List ℕ → List ℕ → ℕ → ℕ → ℕ → Env → State → ExprOut
subpiece s t p a m pos name n e st = subpiece_meant (resolve_ident s t p e name) s t a m pos n e st
