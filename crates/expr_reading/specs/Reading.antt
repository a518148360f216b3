-- Reading: an expression's value becomes an operand, in the output where one is given. In all of these s is the stream, t
-- the section's table, a the actions, m the temporaries, e the environment, st the state.
use Rattle.std.specs.Prelude.{ℕ, ◌+◌, ◌/◌, ◌%◌, Bool, false, List, eqb}
use Rattle.access.specs.Mask.{mask_of}
use Rattle.list_values.specs.declared.value.Value.{Value}
use Rattle.list_values.specs.Outcomes.{Slice}
use Rattle.list_pushes.specs.declared.push.State.{State}
use Rattle.list_pushes.specs.declared.push.Env.{Env}
use Rattle.list_pushes.specs.declared.push.Operation.{Operation}
use Rattle.list_pushes.specs.Outcomes.{Read}
use Rattle.list_pushes.specs.Outcomes.{Pushed}
use Rattle.list_values.specs.Base.{Listed, listed, then_l}
use Rattle.prelude.specs.Base.{when◌then◌else◌}
use Rattle.list_values.specs.Values.{local, with_size, absent, slice_bytes}
use Rattle.list_values.specs.Sizes.{size_of, settled}
use Rattle.list_pushes.specs.Pushes.{ReadOut, read, on_read, on_tmp, with_sizing, add_tmp, output_or, push, op_to, op}
use Rattle.expr_scope.specs.declared.scope.ExprValue.{ExprValue}
use Rattle.expr_reading.specs.Outcomes.{Stated}

abbrev pub needed_bytes : ℕ → ℕ
needed_bytes bits = (bits + 7) / 8

abbrev pub constant : ℕ → Value
constant n = local 7 n

abbrev pub stated : Value → State → Stated
stated v st = record { v = v; st = st }

unfoldable pub set_size : List ℕ → List ℕ → List ℕ → Value → ℕ → State → Listed Stated
set_size s t m v size st =
    then_l (settled m v (size_of s t m v) size st.sizing) λ z w. listed (stated (with_size size v) (with_sizing z st)) w

-- a register access's stated size is set; 0 sets none
unfoldable pub set_stated : List ℕ → List ℕ → List ℕ → Value → ℕ → State → Listed Stated
set_stated s t m v size st = when eqb size 0 then listed (stated v st) m else set_size s t m v size st

-- a RAM access's stated size is taken silently; 0 sets none
unfoldable pub take_stated : List ℕ → List ℕ → List ℕ → Value → ℕ → State → Listed Stated
take_stated s t m v size st =
    when eqb size 0 then listed (stated v st) m
    else when eqb (size_of s t m v) 65535 then set_size s t m v size st
    else listed (stated (with_size size v) st) m

unfoldable pub copy_to : List ℕ → List ℕ → List ℕ → List ℕ → Env → Bool → Value → Value → State → ReadOut
copy_to s t a m e given to v st =
    when given then op_to s t a m e 57 0 1 to v absent st else read (Read.Value v st) a m

unfoldable pub byte_aligned : ℕ → ℕ → Bool
byte_aligned from bits = when eqb (from % 8) 0 then eqb (bits % 8) 0 else false

unfoldable pub slice_read : Slice → State → Read
slice_read (Slice.Is v) st = Read.Value v st
slice_read (Slice.No n) st = Read.No n

-- the slice, unless its offset passes 65,535
unfoldable pub sliced : Value → ℕ → ℕ → State → Read
sliced v more size st = slice_read (slice_bytes v more size) st

-- an operation into a temporary, of which so many low bits stay
unfoldable pub masked : List ℕ → List ℕ → List ℕ → List ℕ → Env → Operation → Value → ℕ → State → ReadOut
masked s t a m e o tmp bits st =
    on_read (op_to s t a m e o.code o.number o.count tmp o.first o.second st)
    (λ _ st1 b w. op_to s t b w e 24 0 2 tmp tmp (constant (mask_of bits)) st1)
    (λ n b w. read (Read.No n) b w)

-- a value shifted into a temporary, which is then masked
unfoldable pub shift_to : List ℕ → List ℕ → List ℕ → List ℕ → Env → Value → Value → ℕ → ℕ → State → ReadOut
shift_to s t a m e v tmp from bits st =
    on_read (op_to s t a m e 8 0 2 tmp v (constant from) st)
    (λ _ st1 b w. op_to s t b w e 24 0 2 tmp tmp (constant (mask_of bits)) st1)
    (λ n b w. read (Read.No n) b w)

unfoldable pub shift_and_mask : List ℕ → List ℕ → List ℕ → List ℕ → Env → Value → ℕ → ℕ → State → ReadOut
shift_and_mask s t a m e v from bits st =
    on_tmp (add_tmp m 65535 (size_of s t m v) st)
    (λ tmp st1 w. on_read (shift_to s t a w e v tmp from bits st1)
    (λ _ st2 b u. read (Read.Value (with_size (needed_bytes bits) tmp) st2) b u)
    (λ n b u. read (Read.No n) b u))
    (λ n w. read (Read.No n) a w)

unfoldable pub part_of : List ℕ → List ℕ → List ℕ → List ℕ → Env → Value → ℕ → ℕ → State → ReadOut
part_of s t a m e v from bits st =
    when byte_aligned from bits then read (sliced v (from / 8) (bits / 8) st) a m else shift_and_mask s t a m e v from bits st

unfoldable pub read_slice : List ℕ → List ℕ → List ℕ → List ℕ → Env → Value → ℕ → ℕ → Bool → Value → State → ReadOut
read_slice s t a m e v from bits given to st =
    on_read (part_of s t a m e v from bits st)
    (λ part st1 b w. copy_to s t b w e given to part st1)
    (λ n b w. read (Read.No n) b w)

-- the output of what was pushed
unfoldable pub pushed_to : Pushed → Value → Read
pushed_to (Pushed.Done st) v = Read.Value v st
pushed_to (Pushed.No n) v = Read.No n

unfoldable pub pushed_out : Listed Pushed → Value → List ℕ → ReadOut
pushed_out (listed r a) v m = read (pushed_to r v) a m

unfoldable pub read_address : List ℕ → List ℕ → Value → ℕ → Bool → Value → State → ReadOut
read_address a m base size given to st =
    when eqb base.offset 0
    then on_tmp (output_or m given to size st)
    (λ v st1 w. pushed_out (push a 1 0 0 1 v (local base.kind base.number) absent st1) v w)
    (λ n w. read (Read.No n) a w)
    else read (Read.No 31) a m

unfoldable pub load_to : List ℕ → List ℕ → List ℕ → Env → Value → Listed Stated → ReadOut
load_to s t a e pointer (listed out m) = op_to s t a m e 58 0 1 out.v pointer absent out.st

unfoldable pub load : List ℕ → List ℕ → List ℕ → List ℕ → Env → Value → ℕ → Bool → Value → State → ReadOut
load s t a m e pointer size given to st =
    on_tmp (output_or m given to 65535 st)
    (λ v st1 w. load_to s t a e pointer (take_stated s t w v size st1))
    (λ n w. read (Read.No n) a w)

unfoldable pub load_register_to : List ℕ → Value → ℕ → Listed Stated → ReadOut
load_register_to a pointer size (listed out m) = pushed_out (push a 2 0 size 1 out.v pointer absent out.st) out.v m

unfoldable pub load_register : List ℕ → List ℕ → List ℕ → List ℕ → Value → ℕ → Bool → Value → State → ReadOut
load_register s t a m pointer size given to st =
    on_tmp (output_or m given to size st)
    (λ v st1 w. load_register_to a pointer size (set_stated s t w v size st1))
    (λ n w. read (Read.No n) a w)

-- the value, in the output where one is given
unfoldable pub read_value : List ℕ → List ℕ → List ℕ → List ℕ → Env → ExprValue → Bool → Value → State → ReadOut
read_value s t a m e (ExprValue.Local v) given to st = copy_to s t a m e given to v st
read_value s t a m e (ExprValue.Unbound v) given to st = copy_to s t a m e given to v st
read_value s t a m e (ExprValue.Const n size) given to st = copy_to s t a m e given to (with_size size (constant n)) st
read_value s t a m e (ExprValue.Apply o) given to st = op s t a m e o.code o.number o.count given to o.first o.second st
read_value s t a m e (ExprValue.RamRef x) given to st = load s t a m e x.pointer x.size given to st
read_value s t a m e (ExprValue.RegisterRef x) given to st = load_register s t a m x.pointer x.size given to st
read_value s t a m e (ExprValue.AddressOf base size) given to st = read_address a m base size given to st
read_value s t a m e (ExprValue.BitRange r) given to st = read_slice s t a m e r.base r.bits.from r.bits.count given to st

-- as an operand, with no output given
unfoldable pub read_operand : List ℕ → List ℕ → List ℕ → List ℕ → Env → ExprValue → State → ReadOut
read_operand s t a m e x st = read_value s t a m e x false absent st
