-- An answer with the two lists that a function was lent, and how a step goes on from it. In all of these a is the actions, m
-- the temporaries, st the state.
use Rattle.std.specs.Prelude.{ℕ, ◌+◌, List, eqb, ltb, Option, Some, None}
use Rattle.list_values.specs.declared.value.Value.{Value}
use Rattle.list_pushes.specs.declared.push.State.{State}
use Rattle.list_pushes.specs.Outcomes.{Read}
use Rattle.prelude.specs.Base.{when◌then◌else◌}
use Rattle.list_pushes.specs.Pushes.{ReadOut, read}
use Rattle.expr_scope.specs.declared.scope.ExprValue.{ExprValue}
use Rattle.expr_terms.specs.Outcomes.{Expr}
use Rattle.expr_terms.specs.Outcomes.{Operand}
use Rattle.expr_scope.specs.Outcomes.{Args}

-- an answer, the actions and the temporaries
pub data ExprOut : Type 0 where
  resolved : Expr → List ℕ → List ℕ → ExprOut

pub data OperandOut : Type 0 where
  operand : Operand → List ℕ → List ℕ → OperandOut

-- and the words of the arguments
pub data ArgsOut : Type 0 where
  passed : Args → List ℕ → List ℕ → List ℕ → ArgsOut

-- on with a value, or with the refusal
unfoldable pub on_expr : {A : Type 0} → ExprOut → (ExprValue → ℕ → State → List ℕ → List ℕ → A) → (ℕ → List ℕ → List ℕ → A) → A
on_expr (resolved (Expr.Value next x st) a m) f g = f x next st a m
on_expr (resolved (Expr.No n) a m) f g = g n a m

unfoldable pub on_operand : {A : Type 0} → OperandOut → (Value → ℕ → State → List ℕ → List ℕ → A) → (ℕ → List ℕ → List ℕ → A) → A
on_operand (operand (Operand.Value v next st) a m) f g = f v next st a m
on_operand (operand (Operand.No n) a m) f g = g n a m

unfoldable pub on_args : {A : Type 0} → ArgsOut → (ℕ → State → List ℕ → List ℕ → List ℕ → A) → (ℕ → List ℕ → List ℕ → A) → A
on_args (passed (Args.Done next st) a m args) f g = f next st a m args
on_args (passed (Args.No n) a m args) f g = g n a m

-- an answer made of what was read
unfoldable pub expr_of : ReadOut → (Read → Expr) → ExprOut
expr_of (read r a m) f = resolved (f r) a m

unfoldable pub operand_of : ReadOut → (Read → Operand) → OperandOut
operand_of (read r a m) f = operand (f r) a m

-- and of an operand
unfoldable pub applied_to : OperandOut → (Operand → Expr) → ExprOut
applied_to (operand r a m) f = resolved (f r) a m

-- a number of two bytes, which may be missing
unfoldable pub given : ℕ → Option ℕ
given n = when eqb n 65535 then None else Some n

-- a position so many bytes on
unfoldable pub after : ℕ → ℕ → ℕ
after pos n = when ltb pos 65536 then (when ltb n 65536 then pos + n else pos) else pos
