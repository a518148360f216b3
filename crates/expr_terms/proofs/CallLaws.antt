-- The turns of the loop over a user op's arguments.
use mathlib.Core.Path.{◌≡◌, refl}
use mathlib.Core.List.{List}
use Prim.Native.Nat.{ℕ, suc, ◌+◌, ◌-◌, ◌≤◌, ◌<◌}
use native.Mathlib.Omega.{arith}
use Rattle.list_pushes.specs.declared.push.State.{State}
use Rattle.list_pushes.specs.declared.push.Env.{Env}
use Rattle.list_pushes.specs.Outcomes.{Pushed}
use Rattle.list_pushes.specs.Pushes.{PushedOut, pushed, on_pushed}
use Rattle.expr_scope.specs.declared.scope.ExprValue.{ExprValue}
use Rattle.expr_scope.specs.Slots.{arg_at}
use Rattle.expr_terms.specs.Calls.{pass_arg, pass_from, pass_args}
use Rattle.access.proofs.LoopLaws.{one_less}

pub args_start : (s t a m args : List ℕ) (n : ℕ) (e : Env) (st : State) → pass_from (n - 2) 2 s t a m args e st ≡ pass_args s t a m args n e st
unfolding pass_args
args_start s t a m args n e st = refl

module _ (s t a m args : List ℕ) (n i : ℕ) (e : Env) (st : State) (w : PushedOut) (h : i < n) (inv : pass_from (n - i) i s t a m args e st ≡ w)
    (x : ExprValue) (a1 m1 : List ℕ) (ex : x ≡ arg_at args i) where
  pub args_no : (k : ℕ) → pushed (Pushed.No k) a1 m1 ≡ pass_arg s t a m x (i - 2) e st → pushed (Pushed.No k) a1 m1 ≡ w
  unfolding pass_from on_pushed
  args_no k f = rw (one_less n i h, ← ex, ← f) at inv

  pub args_more : (st1 : State) → pushed (Pushed.Done st1) a1 m1 ≡ pass_arg s t a m x (i - 2) e st → pass_from (n - (i + 1)) (i + 1) s t a1 m1 args e st1 ≡ w
  unfolding pass_from on_pushed
  args_more st1 f =
      let o : i + 1 ≡ suc i = omega arith in
      rw o (rw (one_less n i h, ← ex, ← f, o) at inv)

pub args_done : (s t a m args : List ℕ) (n i : ℕ) (e : Env) (st : State) (w : PushedOut) → n ≤ i → pass_from (n - i) i s t a m args e st ≡ w → pushed (Pushed.Done st) a m ≡ w
unfolding pass_from
args_done s t a m args n i e st w h inv = let z : n - i ≡ 0 = omega arith in rw z at inv

pub ruleset args_laws = (args_start, args_no, args_more, args_done)
