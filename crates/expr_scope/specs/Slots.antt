-- An expression's value as a slot of eight words keeps it: its name, which constructor, two numbers, two values.
use Rattle.std.specs.Prelude.{ℕ, ◌+◌, ◌*◌, ◌/◌, ◌%◌, List, get_or, set, eqb}
use Rattle.list_values.specs.declared.value.Value.{Value}
use Rattle.prelude.specs.Base.{when◌then◌else◌}
use Rattle.list_values.specs.Values.{absent, value_at, put_value}
use Rattle.expr_scope.specs.declared.scope.ExprValue.{ExprValue}
use Rattle.expr_scope.specs.declared.scope.Slot.{Slot}

abbrev pub slot : ℕ → ℕ → ℕ → Value → Value → Slot
slot tag x y a b = record { tag = tag; x = x; y = y; a = a; b = b }

abbrev pub one_value : ℕ → ℕ → ℕ → Value → Slot
one_value tag x y a = slot tag x y a absent

unfoldable pub slot_of : ExprValue → Slot
slot_of (ExprValue.Local v) = one_value 0 0 0 v
slot_of (ExprValue.Unbound v) = one_value 1 0 0 v
slot_of (ExprValue.Const value size) = one_value 2 value size absent
slot_of (ExprValue.Apply o) = slot 3 (o.code % 256 + o.count % 256 * 256) o.number o.first o.second
slot_of (ExprValue.RamRef x) = one_value 4 x.size 0 x.pointer
slot_of (ExprValue.RegisterRef x) = one_value 5 x.size 0 x.pointer
slot_of (ExprValue.AddressOf base size) = one_value 6 size 0 base
slot_of (ExprValue.BitRange r) = one_value 7 r.bits.from r.bits.count r.base

unfoldable pub of_parts : ℕ → ℕ → ℕ → Value → Value → ExprValue
of_parts tag x y a b =
    when eqb tag 0 then ExprValue.Local a
    else when eqb tag 1 then ExprValue.Unbound a
    else when eqb tag 2 then ExprValue.Const x y
    else when eqb tag 3 then ExprValue.Apply (record { code = x % 256; number = y; count = x / 256; first = a; second = b })
    else when eqb tag 4 then ExprValue.RamRef (record { pointer = a; size = x })
    else when eqb tag 5 then ExprValue.RegisterRef (record { pointer = a; size = x })
    else when eqb tag 6 then ExprValue.AddressOf a x
    else ExprValue.BitRange (record { base = a; bits = record { from = x; count = y } })

unfoldable pub of_slot : Slot → ExprValue
of_slot k = of_parts k.tag k.x k.y k.a k.b

unfoldable pub put_slot : List ℕ → ℕ → Slot → List ℕ
put_slot p at k = put_value (put_value (set (set (set p (at + 1) k.tag) (at + 2) k.x) (at + 3) k.y) at 4 k.a) at 6 k.b

unfoldable pub slot_at : List ℕ → ℕ → Slot
slot_at p at = slot (get_or p (at + 1) 0) (get_or p (at + 2) 0) (get_or p (at + 3) 0) (value_at p at 4) (value_at p at 6)

-- where the slot of parameter i stands
unfoldable pub param_place : ℕ → ℕ
param_place i = i % 8 * 8

-- slot i of a list of arguments
unfoldable pub arg_at : List ℕ → ℕ → ExprValue
arg_at args i = of_slot (slot_at args (param_place i))

unfoldable pub put_arg : List ℕ → ℕ → ExprValue → List ℕ
put_arg args i x = put_slot args (param_place i) (slot_of x)
