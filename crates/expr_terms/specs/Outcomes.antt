-- What resolving an expression gives, an operand, a call's name and a space, as the words have it: what it is, or the number
-- of a refusal.
use Rattle.std.specs.Prelude.{ℕ, Some, Result, Ok, Err}
use Rattle.codes.specs.declared.refusal.Refusal.{Refusal}
use Rattle.codes.specs.Refusals.{number}
use Rattle.list_values.specs.declared.value.Value as values
use Rattle.list_pushes.specs.declared.push.State.{State}
use Rattle.expr_scope.specs.declared.scope.ExprValue.{ExprValue}
use Rattle.expr_inbuilts.specs.Outcomes.{Inbuilt as Function, to_inbuilt}
use Rattle.expr_terms.specs.declared.answers.Resolved.{Resolved}
use Rattle.expr_terms.specs.declared.calls.Callee as callees

pub data Expr : Type 0 where
  Value : ℕ → ExprValue → State → Expr
  No : ℕ → Expr

abbrev pub to_expr : Result (Resolved ExprValue) Refusal → Expr
to_expr (Ok r) = Expr.Value r.next r.value r.state
to_expr (Err refusal) = Expr.No (number refusal)

pub data Operand : Type 0 where
  Value : values.Value → ℕ → State → Operand
  No : ℕ → Operand

abbrev pub to_operand : Result (Resolved values.Value) Refusal → Operand
to_operand (Ok o) = Operand.Value o.value o.next o.state
to_operand (Err refusal) = Operand.No (number refusal)

pub data Callee : Type 0 where
  Inbuilt : Function → Callee
  UserOp : ℕ → Callee
  Local : Callee
  No : ℕ → Callee

abbrev pub to_callee : Result callees.Callee Refusal → Callee
to_callee (Ok (callees.Callee.Inbuilt inbuilt)) = Callee.Inbuilt (to_inbuilt (Some inbuilt))
to_callee (Ok (callees.Callee.UserOp id)) = Callee.UserOp id
to_callee (Ok callees.Callee.Local) = Callee.Local
to_callee (Err refusal) = Callee.No (number refusal)

pub data Space : Type 0 where
  Kind : ℕ → Space
  No : ℕ → Space

abbrev pub to_space : Result ℕ Refusal → Space
to_space (Ok kind) = Space.Kind kind
to_space (Err refusal) = Space.No (number refusal)
