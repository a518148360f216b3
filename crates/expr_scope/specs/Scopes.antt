-- What a name means: a macro parameter, inst_next, inst_start, a local, a global register or bit range. In all of these s is
-- the stream, t the section's table, p the scope's list, m the temporaries.
use Rattle.std.specs.Prelude.{ℕ, zero, suc, ◌+◌, ◌-◌, ◌*◌, ◌/◌, ◌%◌, Bool, List, get_or, eqb, ltb}
use Rattle.access.specs.Le.{le16}
use Rattle.list_values.specs.declared.value.Value.{Value}
use Rattle.list_pushes.specs.declared.push.State.{State}
use Rattle.list_pushes.specs.declared.push.Env.{Env}
use Rattle.list_pushes.specs.Outcomes.{Read}
use Rattle.prelude.specs.Base.{when◌then◌else◌}
use Rattle.list_values.specs.Values.{local}
use Rattle.list_values.specs.Sizes.{entry}
use Rattle.list_pushes.specs.Pushes.{ReadOut, read, add_tmp, on_tmp}
use Rattle.expr_scope.specs.declared.scope.ExprValue.{ExprValue}
use Rattle.expr_scope.specs.Outcomes.{Meaning, Found, Plain, Symbol}
use Rattle.expr_scope.specs.Slots.{of_slot, slot_at, param_place}
use Rattle.expr_scope.specs.Smalls.{small, put_small}
use Rattle.expr_scope.specs.Symbols.{lookup}

-- one more than the number of the last of so many parameters that has the name, or 0
unfoldable pub find_param : ℕ → List ℕ → ℕ → ℕ
find_param zero p name = 0
find_param (suc i) p name =
    when eqb (get_or p (param_place i + 0) 0) name then suc i else find_param i p name

-- a field is 1 + 2 × its number, a subtable 2 + 2 × its number
unfoldable pub own_of : ℕ → Found
own_of k =
    when eqb k 0 then Found.Nothing
    else when eqb (k % 2) 1 then Found.Is (local 3 (k / 2))
    else Found.Is (local 4 (k / 2 - 1))

unfoldable pub own_local : List ℕ → ℕ → Found
own_local t name = own_of (get_or t (2048 + name % 1024) 0)

-- one more than the number of a temporary
unfoldable pub tmp_of : ℕ → Found
tmp_of k = when eqb k 0 then Found.Nothing else Found.Is (local 6 (k - 1))

unfoldable pub tmp_local : List ℕ → ℕ → Found
tmp_local p name = tmp_of (small p (name % 1024))

unfoldable pub or_tmp : Found → List ℕ → ℕ → Found
or_tmp (Found.Is v) p name = Found.Is v
or_tmp Found.Nothing p name = tmp_local p name

-- fields and subtables are the section's own
unfoldable pub lookup_local : List ℕ → List ℕ → Bool → ℕ → Found
lookup_local t p own name = when own then or_tmp (own_local t name) p name else tmp_local p name

-- what stands at an entry of the list of bit ranges
unfoldable pub bits_at : List ℕ → ℕ → ExprValue
bits_at s at = ExprValue.BitRange (record { base = local 2 (le16 s (at + 2)); bits = record { from = le16 s (at + 4); count = le16 s (at + 6) } })

unfoldable pub bit_range : List ℕ → List ℕ → ℕ → ExprValue
bit_range s t i = bits_at s (entry t 2 (i % 65536 * 8))

unfoldable pub global_meaning : List ℕ → List ℕ → Symbol → Meaning
global_meaning s t Symbol.Undefined = Meaning.Wrong 22
global_meaning s t (Symbol.Register i) = Meaning.Means (ExprValue.Local (local 2 i))
global_meaning s t (Symbol.BitRange i) = Meaning.Means (bit_range s t i)
global_meaning s t (Symbol.Space i) = Meaning.Wrong 23
global_meaning s t (Symbol.Table i) = Meaning.Wrong 23
global_meaning s t (Symbol.UserOp i) = Meaning.Wrong 23
global_meaning s t (Symbol.Macro i) = Meaning.Wrong 23
global_meaning s t (Symbol.Other i) = Meaning.Wrong 23

unfoldable pub found_or : Found → Meaning → Meaning
found_or (Found.Is v) other = Meaning.Means (ExprValue.Local v)
found_or Found.Nothing other = other

-- inst_next, else inst_start, else a local
unfoldable pub local_meaning : List ℕ → List ℕ → List ℕ → Env → ℕ → Found
local_meaning s t p e name =
    when eqb name (le16 s 28) then Found.Is (local 1 0)
    else when eqb name (le16 s 26) then Found.Is (local 0 0)
    else lookup_local t p e.own name

-- these, else a global
unfoldable pub inner_meaning : List ℕ → List ℕ → List ℕ → Env → ℕ → Meaning
inner_meaning s t p e name = found_or (local_meaning s t p e name) (global_meaning s t (lookup t name))

-- parameter number i - 1, unless i is 0
unfoldable pub param_or : ℕ → List ℕ → Meaning → Meaning
param_or i p other = when ltb 0 i then Meaning.Means (of_slot (slot_at p (param_place (i - 1)))) else other

unfoldable pub resolve_ident : List ℕ → List ℕ → List ℕ → Env → ℕ → Meaning
resolve_ident s t p e name = param_or (find_param e.count p name) p (inner_meaning s t p e name)

unfoldable pub plain_of : Meaning → Plain
plain_of (Meaning.Means (ExprValue.Local v)) = Plain.Is v
plain_of (Meaning.Means (ExprValue.Unbound v)) = Plain.Untold
plain_of (Meaning.Means (ExprValue.Const n z)) = Plain.Untold
plain_of (Meaning.Means (ExprValue.Apply operation)) = Plain.Untold
plain_of (Meaning.Means (ExprValue.RamRef access)) = Plain.Untold
plain_of (Meaning.Means (ExprValue.RegisterRef access)) = Plain.Untold
plain_of (Meaning.Means (ExprValue.AddressOf v z)) = Plain.Untold
plain_of (Meaning.Means (ExprValue.BitRange r)) = Plain.Untold
plain_of (Meaning.Wrong n) = Plain.Wrong n

-- what a name means, where that is a plain local or wrong; a parameter is left to `resolve_ident`
unfoldable pub plain_local : List ℕ → List ℕ → List ℕ → Env → ℕ → Plain
plain_local s t p e name = when eqb (find_param e.count p name) 0 then plain_of (inner_meaning s t p e name) else Plain.Untold

-- 21 where there was one of this name, else the scope's words that declare it
unfoldable pub undeclared : Found → Value → State → List ℕ → List ℕ → List ℕ → ReadOut
undeclared (Found.Is w) v st p q m = read (Read.No 21) p m
undeclared Found.Nothing v st p q m = read (Read.Value v st) q m

-- a temporary is made, then declared under its name; the scope and the temporaries
unfoldable pub named_tmp : List ℕ → List ℕ → List ℕ → Env → ℕ → ℕ → State → ReadOut
named_tmp t p m e name size st =
    on_tmp (add_tmp m name size st)
    (λ v st1 u. undeclared (lookup_local t p e.own name) v st1 p (put_small p (name % 1024) st1.temporaries) u)
    (λ n u. read (Read.No n) p u)
