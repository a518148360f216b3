-- The turns of the loop over arguments, one law for each way out of the walk, and what is read at once.
use mathlib.Core.Path.{refl, ◌≡◌, ap, ◌∙◌}
use mathlib.Core.List.{List}
use Prim.Native.Nat.{ℕ, suc, ◌+◌, ◌-◌, ◌≤◌, ◌<◌}
use native.Mathlib.Omega.{arith}
use lib.ListN.{get_or}
use borrow.Author.Tests.{eq-eqb, ne_eqb, lt-ltb, le-ltb}
use Rattle.list_pushes.specs.declared.push.State.{State}
use Rattle.list_pushes.specs.declared.push.Env.{Env}
use Rattle.expr_scope.specs.declared.scope.ExprValue.{ExprValue}
use Rattle.expr_scope.specs.Outcomes.{Args, Meaning, Plain}
use Rattle.expr_scope.specs.Scopes.{resolve_ident, plain_local}
use Rattle.expr_scope.specs.Slots.{put_arg}
use Rattle.access.specs.Le.{le16, le64}
use Rattle.list_values.specs.declared.value.Value.{Value}
use Rattle.list_pushes.specs.Outcomes.{Read}
use Rattle.list_pushes.specs.Pushes.{read}
use Rattle.expr_reading.specs.Reading.{constant, copy_to, read_value, read_operand}
use Rattle.expr_scope.proofs.ScopeLaws.{plain_means, plain_wrong}
use Rattle.expr_terms.specs.Outcomes.{Expr, Operand}
use Rattle.expr_terms.specs.Answers.{resolved, on_expr, ArgsOut, passed, operand, operand_of, after}
use Rattle.expr_resolver.specs.Expressions.{means_at, value_then, expr_value, atom, Walk, part, resolve_op, resolve_args, resolve_call, by_code, resolve_expr}
use Rattle.access.proofs.LoopLaws.{one_less}

pub args_start : (walk : Walk) (n pos : ℕ) (a m args : List ℕ) (st : State) → resolve_args walk (n - 0) 0 pos a m args st ≡ resolve_args walk n 0 pos a m args st
args_start walk n pos a m args st = let z : n - 0 ≡ n = omega arith in rw z

module _ (walk : Walk) (n i pos : ℕ) (a m args : List ℕ) (st : State) (w : ArgsOut) (h : i < n) (inv : resolve_args walk (n - i) i pos a m args st ≡ w)
    (a1 m1 : List ℕ) where
  pub args_no : (k : ℕ) → resolved (Expr.No k) a1 m1 ≡ walk pos a m st → passed (Args.No k) a1 m1 args ≡ w
  unfolding resolve_args on_expr
  args_no k f = rw (one_less n i h, ← f) at inv

  pub args_more : (x : ExprValue) (next : ℕ) (st1 : State) (args1 : List ℕ) → resolved (Expr.Value next x st1) a1 m1 ≡ walk pos a m st → args1 ≡ put_arg args i x →
      resolve_args walk (n - (i + 1)) (i + 1) next a1 m1 args1 st1 ≡ w
  unfolding resolve_args on_expr
  args_more x next st1 args1 f g =
      let o : i + 1 ≡ suc i = omega arith in
      rw (o, g) (rw (one_less n i h, ← f, o) at inv)

pub args_done : (walk : Walk) (n i pos : ℕ) (a m args : List ℕ) (st : State) (w : ArgsOut) → n ≤ i → resolve_args walk (n - i) i pos a m args st ≡ w → passed (Args.Done pos st) a m args ≡ w
unfolding resolve_args
args_done walk n i pos a m args st w h inv = let z : n - i ≡ 0 = omega arith in rw z at inv

pub ruleset args_laws = (args_start, args_no, args_more, args_done)

pub expr_deep : (d : ℕ) (s t p : List ℕ) (e : Env) (pos : ℕ) (a m : List ℕ) (st : State) → d ≡ 0 → resolved (Expr.No 4) a m ≡ resolve_expr d s t p e pos a m st
unfolding resolve_expr
expr_deep d s t p e pos a m st z = rw z

module _ (d : ℕ) (s t p : List ℕ) (e : Env) (pos : ℕ) (a m : List ℕ) (st : State) (nz : d ≡ 0 → ⊥) (code : ℕ) (ec : code ≡ get_or s (pos + 0) 0) where
  step : resolve_expr d s t p e pos a m st ≡ by_code (resolve_expr (d - 1) s t p e) code s t p e pos a m st
  unfolding resolve_expr
  step = let h : d ≡ suc (d - 1) = omega arith in ap (λ n. resolve_expr n s t p e pos a m st) h ∙ rw (ec)

  pub expr-atom : (z : Expr) → code < 3 → z ≡ atom code s t p pos e st → resolved z a m ≡ resolve_expr d s t p e pos a m st
  unfolding by_code
  expr-atom z h g = rw (step, lt-ltb code 3 h, g)

  module _ (k : 3 ≤ code) where
    pub expr_operator : (z : Expr) (a1 m1 : List ℕ) → code ≡ 5 → resolved z a1 m1 ≡ resolve_op (resolve_expr (d - 1) s t p e) s t e pos a m st → resolved z a1 m1 ≡ resolve_expr d s t p e pos a m st
    unfolding by_code
    expr_operator z a1 m1 h g = rw (step, le-ltb code 3 k, eq-eqb code 5 h) g

    module _ (l : code ≡ 5 → ⊥) where
      pub expr-part : (z : Expr) (a1 m1 : List ℕ) → code < 7 → resolved z a1 m1 ≡ part (resolve_expr (d - 1) s t p e) code s t e pos a m st → resolved z a1 m1 ≡ resolve_expr d s t p e pos a m st
      unfolding by_code
      expr-part z a1 m1 h g = rw (step, le-ltb code 3 k, ne_eqb code 5 l, lt-ltb code 7 h) g

      module _ (o : 7 ≤ code) where
        pub expr_pool : code ≡ 7 → resolved (Expr.No 32) a m ≡ resolve_expr d s t p e pos a m st
        unfolding by_code
        expr_pool h = rw (step, le-ltb code 3 k, ne_eqb code 5 l, le-ltb code 7 o, eq-eqb code 7 h)

        pub expr-call : (z : Expr) (a1 m1 : List ℕ) → (code ≡ 7 → ⊥) → resolved z a1 m1 ≡ resolve_call (resolve_expr (d - 1) s t p e) s t p e pos a m st →
            resolved z a1 m1 ≡ resolve_expr d s t p e pos a m st
        unfolding by_code
        expr-call z a1 m1 h g = rw (step, le-ltb code 3 k, ne_eqb code 5 l, le-ltb code 7 o, ne_eqb code 7 h) g

pub ruleset deep_laws = (expr_deep, expr-atom, expr_operator, expr-part, expr_pool, expr-call)

-- ---- an atom that is read is the value itself
module _ (d : ℕ) (s t p : List ℕ) (e : Env) (pos : ℕ) (st : State) (nz : d ≡ 0 → ⊥) (code : ℕ) (ec : code ≡ get_or s (pos + 0) 0) (a m : List ℕ) where
  read_at_once : (x : ExprValue) (v : Value) (next : ℕ) → code < 3 → Expr.Value next x st ≡ atom code s t p pos e st → read (Read.Value v st) a m ≡ read_operand s t a m e x st → operand (Operand.Value v next st) a m ≡ expr_value (resolve_expr d s t p e) s t e pos a m st
  unfolding expr_value on_expr operand_of value_then
  read_at_once x v next l h r = rw (← expr-atom d s t p e pos a m st nz code ec (Expr.Value next x st) l h, ← r)

  pub plain_read : (name : ℕ) (v : Value) → code ≡ 0 → name ≡ le16 s (pos + 1) → Plain.Is v ≡ plain_local s t p e name → operand (Operand.Value v (after pos 3) st) a m ≡ expr_value (resolve_expr d s t p e) s t e pos a m st
  unfolding atom means_at read_operand read_value copy_to
  plain_read name v k en f =
      let g : resolve_ident s t p e (le16 s (pos + 1)) ≡ Meaning.Means (ExprValue.Local v) = rw (← en) (plain_means s t p e name v f) in
      read_at_once (ExprValue.Local v) v (after pos 3) (omega arith) (rw (k, g)) refl

  pub plain_refused : (name n : ℕ) → code ≡ 0 → name ≡ le16 s (pos + 1) → Plain.Wrong n ≡ plain_local s t p e name → operand (Operand.No n) a m ≡ expr_value (resolve_expr d s t p e) s t e pos a m st
  unfolding atom means_at expr_value on_expr
  plain_refused name n k en f =
      let g : resolve_ident s t p e (le16 s (pos + 1)) ≡ Meaning.Wrong n = rw (← en) (plain_wrong s t p e name n f) in
      rw (← expr-atom d s t p e pos a m st nz code ec (Expr.No n) (omega arith) (rw (k, g)))

  pub integer_read : (at n : ℕ) → code ≡ 1 → at ≡ after pos 1 → n ≡ le64 s at → operand (Operand.Value (constant n) (after pos 9) st) a m ≡ expr_value (resolve_expr d s t p e) s t e pos a m st
  unfolding atom read_operand read_value copy_to
  integer_read at n k ea en = read_at_once (ExprValue.Const n 65535) (constant n) (after pos 9) (omega arith) (rw (k, en, ea)) refl
