-- Slices of bits: a local's has no bound, and what cannot be sliced unread is read first. In all of these s is the stream, t
-- the section's table, a the actions, m the temporaries, e the environment, st the state.
use Rattle.std.specs.Prelude.{ℕ, ◌+◌, ◌*◌, ◌/◌, ◌%◌, ◌^◌, min, false, List, eqb, ltb, leb}
use Rattle.list_values.specs.declared.value.Value.{Value}
use Rattle.list_pushes.specs.declared.push.State.{State}
use Rattle.list_pushes.specs.declared.push.Env.{Env}
use Rattle.list_pushes.specs.Outcomes.{Read}
use Rattle.prelude.specs.Base.{when◌then◌else◌}
use Rattle.list_values.specs.Values.{absent}
use Rattle.list_pushes.specs.Pushes.{on_read}
use Rattle.expr_scope.specs.declared.scope.ExprValue.{ExprValue}
use Rattle.expr_terms.specs.Outcomes.{Expr}
use Rattle.expr_reading.specs.Reading.{needed_bytes, read_slice, read_operand}
use Rattle.expr_terms.specs.Answers.{ExprOut, resolved, expr_of}

-- so many bits of a number, 64 at most, from a bit on
abbrev pub low_bits : ℕ → ℕ → ℕ → ℕ
low_bits x from bits = x / 2 ^ from % 2 ^ min bits 64

unfoldable pub unbound_then : ℕ → Read → Expr
unbound_then next (Read.Value v st) = Expr.Value next (ExprValue.Unbound v) st
unbound_then next (Read.No n) = Expr.No n

unfoldable pub slice_read : List ℕ → List ℕ → List ℕ → List ℕ → Env → ExprValue → ℕ → ℕ → ℕ → State → ExprOut
slice_read s t a m e x from bits next st =
    on_read (read_operand s t a m e x st)
    (λ v st1 b w. expr_of (read_slice s t b w e v from bits false absent st1) (unbound_then next))
    (λ n b w. resolved (Expr.No n) b w)

-- a constant with no size has eight bytes
unfoldable pub const_bytes : ℕ → ℕ
const_bytes size = when eqb size 65535 then 8 else size % 65536

unfoldable pub slice_const : ℕ → ℕ → ℕ → ℕ → ℕ → State → Expr
slice_const value size from bits next st =
    when ltb (8 * const_bytes size) (from % 65536 + bits % 65536) then Expr.No 36
    else when leb 64 from then Expr.No 41
    else Expr.Value next (ExprValue.Const (low_bits value from bits) (needed_bytes bits)) st

unfoldable pub slice_range : Value → ℕ → ℕ → ℕ → ℕ → ℕ → State → Expr
slice_range v before whole from bits next st =
    when ltb whole (from % 65536 + bits % 65536) then Expr.No 36
    else Expr.Value next (ExprValue.BitRange (record { base = v; bits = record { from = before % 65536 + from % 65536; count = bits } })) st

unfoldable pub slice_bits : List ℕ → List ℕ → List ℕ → List ℕ → Env → ExprValue → ℕ → ℕ → ℕ → State → ExprOut
slice_bits s t a m e (ExprValue.Local v) from bits next st = resolved (Expr.Value next (ExprValue.BitRange (record { base = v; bits = record { from = from; count = bits } })) st) a m
slice_bits s t a m e (ExprValue.Const value size) from bits next st = resolved (slice_const value size from bits next st) a m
slice_bits s t a m e (ExprValue.BitRange r) from bits next st = resolved (slice_range r.base r.bits.from r.bits.count from bits next st) a m
slice_bits s t a m e (ExprValue.Unbound v) from bits next st = slice_read s t a m e (ExprValue.Unbound v) from bits next st
slice_bits s t a m e (ExprValue.Apply operation) from bits next st = slice_read s t a m e (ExprValue.Apply operation) from bits next st
slice_bits s t a m e (ExprValue.RamRef access) from bits next st = slice_read s t a m e (ExprValue.RamRef access) from bits next st
slice_bits s t a m e (ExprValue.RegisterRef access) from bits next st = slice_read s t a m e (ExprValue.RegisterRef access) from bits next st
slice_bits s t a m e (ExprValue.AddressOf v z) from bits next st = slice_read s t a m e (ExprValue.AddressOf v z) from bits next st
