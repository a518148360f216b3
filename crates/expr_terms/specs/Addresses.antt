-- Addresses: the place that a pointer in a space refers to. In all of these s is the stream, t the section's table, a the
-- actions, m the temporaries, e the environment, st the state.
use Rattle.std.specs.Prelude.{ℕ, ◌+◌, ◌*◌, ◌%◌, List, get_or, eqb}
use Rattle.access.specs.Le.{le16}
use Rattle.list_values.specs.declared.value.Value.{Value}
use Rattle.list_pushes.specs.declared.push.State.{State}
use Rattle.list_pushes.specs.declared.push.Env.{Env}
use Rattle.list_pushes.specs.Outcomes.{Read}
use Rattle.prelude.specs.Base.{when◌then◌else◌}
use Rattle.list_values.specs.Values.{with_size}
use Rattle.list_values.specs.Sizes.{entry}
use Rattle.expr_scope.specs.declared.scope.ExprValue.{ExprValue}
use Rattle.expr_scope.specs.Outcomes.{Symbol}
use Rattle.expr_terms.specs.Outcomes.{Expr}
use Rattle.expr_terms.specs.Outcomes.{Space}
use Rattle.expr_scope.specs.Symbols.{lookup}
use Rattle.expr_reading.specs.Reading.{read_operand}
use Rattle.expr_terms.specs.Answers.{ExprOut, resolved, expr_of}

unfoldable pub or_size : ℕ → ℕ → ℕ
or_size size other = when eqb size 65535 then other else size

unfoldable pub in_const_space : ExprValue → ℕ → ℕ → State → Expr
in_const_space (ExprValue.Local v) size next st = Expr.Value next (ExprValue.Local (with_size (or_size size v.size) v)) st
in_const_space (ExprValue.Const value old) size next st = Expr.Value next (ExprValue.Const value (or_size size old)) st
in_const_space (ExprValue.Unbound v) size next st = Expr.No 38
in_const_space (ExprValue.Apply operation) size next st = Expr.No 38
in_const_space (ExprValue.RamRef access) size next st = Expr.No 38
in_const_space (ExprValue.RegisterRef access) size next st = Expr.No 38
in_const_space (ExprValue.AddressOf v z) size next st = Expr.No 38
in_const_space (ExprValue.BitRange r) size next st = Expr.No 38

-- the kind of entry i of the list of spaces
unfoldable pub kind_of_space : List ℕ → List ℕ → ℕ → Space
kind_of_space s t i = Space.Kind (get_or s (entry t 0 (i % 65536 * 5) + 2) 0)

unfoldable pub space_of : List ℕ → List ℕ → Symbol → Space
space_of s t Symbol.Undefined = Space.No 22
space_of s t (Symbol.Space i) = kind_of_space s t i
space_of s t (Symbol.Register i) = Space.No 23
space_of s t (Symbol.BitRange i) = Space.No 23
space_of s t (Symbol.Table i) = Space.No 23
space_of s t (Symbol.UserOp i) = Space.No 23
space_of s t (Symbol.Macro i) = Space.No 23
space_of s t (Symbol.Other i) = Space.No 23

unfoldable pub named_space : List ℕ → List ℕ → ℕ → Space
named_space s t name = space_of s t (lookup t name)

unfoldable pub default_space : List ℕ → List ℕ → ℕ → Space
default_space s t i = when eqb i 65535 then Space.No 39 else kind_of_space s t i

-- the named space, else the default one
unfoldable pub resolve_space : List ℕ → List ℕ → ℕ → Space
resolve_space s t name = when eqb name 65535 then default_space s t (le16 s 24) else named_space s t name

unfoldable pub reference_to : ℕ → ℕ → ℕ → Value → State → Expr
reference_to kind size next v st =
    when eqb kind 0 then Expr.Value next (ExprValue.RamRef (record { pointer = v; size = or_size size 0 })) st
    else when eqb kind 1 then Expr.Value next (ExprValue.RegisterRef (record { pointer = v; size = or_size size 0 })) st
    else Expr.No 40

unfoldable pub reference : ℕ → ℕ → ℕ → Read → Expr
reference kind size next (Read.Value v st) = reference_to kind size next v st
reference kind size next (Read.No n) = Expr.No n

-- on with a kind of space
unfoldable pub in_space : Space → List ℕ → List ℕ → List ℕ → List ℕ → Env → ℕ → ExprValue → ℕ → State → ExprOut
in_space (Space.Kind kind) s t a m e size x next st = expr_of (read_operand s t a m e x st) (reference kind size next)
in_space (Space.No n) s t a m e size x next st = resolved (Expr.No n) a m

unfoldable pub address_in : List ℕ → List ℕ → List ℕ → List ℕ → Env → ℕ → ℕ → ExprValue → ℕ → State → ExprOut
address_in s t a m e space size x next st = in_space (resolve_space s t space) s t a m e size x next st

unfoldable pub resolve_address : List ℕ → List ℕ → List ℕ → List ℕ → Env → ℕ → ℕ → ExprValue → ℕ → State → ExprOut
resolve_address s t a m e space size x next st =
    when eqb space (le16 s 30) then resolved (in_const_space x size next st) a m else address_in s t a m e space size x next st
