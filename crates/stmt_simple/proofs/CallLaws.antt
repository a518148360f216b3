-- The turns of the loop that reads a user op's arguments.
use mathlib.Core.Path.{◌≡◌}
use mathlib.Core.List.{List}
use Prim.Native.Nat.{ℕ, suc, ◌+◌, ◌-◌, ◌≤◌, ◌<◌}
use native.Mathlib.Omega.{arith}
use Rattle.list_values.specs.declared.value.Value.{Value}
use Rattle.list_pushes.specs.declared.push.State.{State}
use Rattle.list_pushes.specs.declared.push.Env.{Env}
use Rattle.list_pushes.specs.Outcomes.{Read}
use Rattle.list_pushes.specs.Outcomes.{Pushed}
use Rattle.list_values.specs.Values.{put_value}
use Rattle.list_pushes.specs.Pushes.{read, on_read}
use Rattle.expr_scope.specs.declared.scope.ExprValue.{ExprValue}
use Rattle.expr_scope.specs.Slots.{param_place, arg_at}
use Rattle.expr_reading.specs.Reading.{read_operand}
use Rattle.access.proofs.LoopLaws.{one_less}
use Rattle.stmt_simple.specs.Calls.{ArgsRead, args_read, read_args}

-- what is left to read gives the whole, B
pub args_start : (n : ℕ) (s t a m args : List ℕ) (e : Env) (st : State) → read_args (n - 0) 0 s t a m args e st ≡ read_args n 0 s t a m args e st
args_start n s t a m args e st = let z : n - 0 ≡ n = omega arith in rw z

pub args_end : (n i : ℕ) (s t a m args : List ℕ) (e : Env) (st : State) (B : ArgsRead) → n ≤ i → read_args (n - i) i s t a m args e st ≡ B → args_read (Pushed.Done st) a m args ≡ B
unfolding read_args
args_end n i s t a m args e st B h q = let z : n - i ≡ 0 = omega arith in rw z at q

module _ (n i : ℕ) (s t a m args : List ℕ) (e : Env) (st : State) (B : ArgsRead) (h : i < n) (inv : read_args (n - i) i s t a m args e st ≡ B) (x : ExprValue) (ex : x ≡ arg_at args i) (a1 m1 : List ℕ) where
  one : (r : Read) → read r a1 m1 ≡ read_operand s t a m e x st → on_read (read r a1 m1) (λ v st1 b u. read_args (n - (i + 1)) (suc i) s t b u (put_value args (param_place i) 4 v) e st1) (λ k b u. args_read (Pushed.No k) b u args) ≡ B
  unfolding read_args
  one r f = rw (f, ex) (rw (one_less n i h) at inv)

  pub args_stop : (k : ℕ) → read (Read.No k) a1 m1 ≡ read_operand s t a m e x st → args_read (Pushed.No k) a1 m1 args ≡ B
  unfolding on_read
  args_stop k f = one (Read.No k) f

  pub args_next : (v : Value) (st1 : State) (at : ℕ) (args1 : List ℕ) → read (Read.Value v st1) a1 m1 ≡ read_operand s t a m e x st → at ≡ param_place i → args1 ≡ put_value args at 4 v → read_args (n - (i + 1)) (i + 1) s t a1 m1 args1 e st1 ≡ B
  unfolding on_read
  args_next v st1 at args1 f ea eb =
      let o : i + 1 ≡ suc i = omega arith in
      rw (eb, ea, o) (rw o at one (Read.Value v st1) f)

pub ruleset args_laws = (args_start, args_end, args_stop, args_next)
