-- The global of a name. t is the section's table.
use Rattle.std.specs.Prelude.{ℕ, ◌+◌, ◌-◌, ◌/◌, ◌%◌, List, get_or, eqb}
use Rattle.prelude.specs.Base.{when◌then◌else◌}
use Rattle.expr_scope.specs.Outcomes.{Symbol}

-- its place in the list of its kind
unfoldable pub place_of : Symbol → ℕ
place_of Symbol.Undefined = 0
place_of (Symbol.Space i) = i
place_of (Symbol.Register i) = i
place_of (Symbol.BitRange i) = i
place_of (Symbol.Table i) = i
place_of (Symbol.UserOp i) = i
place_of (Symbol.Macro i) = i
place_of (Symbol.Other i) = i

unfoldable pub of_kind : ℕ → ℕ → Symbol
of_kind kind i =
    when eqb kind 0 then Symbol.Space i
    else when eqb kind 1 then Symbol.Register i
    else when eqb kind 2 then Symbol.BitRange i
    else when eqb kind 3 then Symbol.Table i
    else when eqb kind 4 then Symbol.UserOp i
    else when eqb kind 5 then Symbol.Macro i
    else Symbol.Other i

-- 0, or 1 + kind + 8 × the place in that kind's list
unfoldable pub symbol_of : ℕ → Symbol
symbol_of g = when eqb g 0 then Symbol.Undefined else of_kind ((g - 1) % 8) ((g - 1) / 8)

unfoldable pub lookup : List ℕ → ℕ → Symbol
lookup t name = symbol_of (get_or t (1024 + name % 1024) 0)
