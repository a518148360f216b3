-- The end: sizes fixed, subpieces turned into copies, the implicit Builds in front, unused words zero. In all of these s is
-- the stream, t the section's table, a the actions, m the temporaries, z the record of errors, ptr the pointer size.
use Rattle.std.specs.Prelude.{ℕ, zero, suc, ◌+◌, ◌-◌, ◌*◌, ◌%◌, ◌^◌, List, ◌++◌, length, take, replicate, get_or, set, Bool, true, false, ◌==◌, slice_index, slice_set}
use Rattle.list_values.specs.declared.value.Value.{Value}
use Rattle.list_values.specs.Outcomes.{Slice}
use Rattle.list_values.specs.declared.sizes.Sizing.{Sizing}
use Rattle.list_end.specs.Outcomes.{Fixed, Finished}
use Rattle.list_values.specs.Base.{Listed, listed, then_l}
use Rattle.prelude.specs.Base.{when◌then◌else◌}
use Rattle.access.specs.Loops.{run}
use Rattle.list_values.specs.Values.{with_size, slice_bytes, value_at, put_value, place, zero_words}
use Rattle.list_values.specs.Sizes.{size_of, error, falls_back}

abbrev pub fixed : Value → Sizing → Fixed
fixed v z = record { v = v; z = z }

abbrev pub finished : ℕ → Sizing → Finished
finished refusal z = record { refusal = refusal; z = z }

-- the known size, else the fallback, else an error
unfoldable pub fix_size : List ℕ → List ℕ → List ℕ → Value → ℕ → Sizing → Fixed
fix_size s t m v ptr z =
    when size_of s t m v == 65535
    then (when falls_back v then fixed (with_size ptr v) z else fixed v (error z))
    else fixed (with_size (size_of s t m v) v) z

unfoldable pub put_fixed : List ℕ → ℕ → ℕ → Fixed → Listed Sizing
put_fixed a at i f = listed f.z (put_value a at i f.v)

unfoldable pub fix_operand : List ℕ → List ℕ → List ℕ → List ℕ → ℕ → ℕ → ℕ → Sizing → Listed Sizing
fix_operand s t a m at i ptr z = put_fixed a at i (fix_size s t m (value_at a at i) ptr z)

-- input i of the action at a position
unfoldable pub fix_input : List ℕ → List ℕ → List ℕ → ℕ → ℕ → ℕ → Listed Sizing → Listed Sizing
fix_input s t m at ptr i x = then_l x λ z a. fix_operand s t a m at (6 + i % 8 * 2) ptr z

unfoldable pub fix_inputs : List ℕ → List ℕ → List ℕ → List ℕ → ℕ → ℕ → ℕ → Sizing → Listed Sizing
fix_inputs s t a m at n ptr z = run n 0 (fix_input s t m at ptr) (listed z a)

unfoldable pub fix_output : List ℕ → List ℕ → List ℕ → List ℕ → ℕ → ℕ → Sizing → Listed Sizing
fix_output s t a m at ptr z = when slice_index a (at + 5) == 255 then listed z a else fix_operand s t a m at 4 ptr z

unfoldable pub fix_operands : List ℕ → List ℕ → List ℕ → List ℕ → ℕ → ℕ → Sizing → Listed Sizing
fix_operands s t a m at ptr z =
    then_l (fix_inputs s t a m at (slice_index a (at + 3) % 16) ptr z) λ y b. fix_output s t b m at ptr y

-- the Copy of a part of a value
unfoldable pub write_copy : List ℕ → ℕ → Value → List ℕ
write_copy a at part = put_value (slice_set (slice_set a (at + 1) 57) (at + 2) 0) at 6 part

unfoldable pub copy_of : List ℕ → ℕ → Slice → Listed ℕ
copy_of a at (Slice.Is part) = listed 0 (write_copy a at part)
copy_of a at (Slice.No n) = listed n a

-- a subpiece becomes a Copy of part of its input: 50 or 42, or 0
unfoldable pub subpiece_copy : List ℕ → ℕ → Listed ℕ
subpiece_copy a at =
    when (value_at a at 4).size == 65535 then listed 50 a
    else copy_of a at (slice_bytes (value_at a at 6) (slice_index a (at + 2) % 65536) (value_at a at 4).size)

unfoldable pub finish_fixed : List ℕ → ℕ → Sizing → Listed Finished
finish_fixed a at z =
    when slice_index a (at + 1) == 66
    then then_l (subpiece_copy a at) (λ r b. listed (finished r z) b)
    else listed (finished 0 z) a

unfoldable pub finish_op : List ℕ → List ℕ → List ℕ → List ℕ → ℕ → ℕ → Sizing → Listed Finished
finish_op s t a m at ptr z =
    when slice_index a (at + 0) == 0
    then then_l (fix_operands s t a m at ptr z) (λ y b. finish_fixed b at y)
    else listed (finished 0 z) a

-- on unless there is a refusal
unfoldable pub then_f : Listed Finished → (Sizing → List ℕ → Listed Finished) → Listed Finished
then_f (listed f a) g = when f.refusal == 0 then g f.z a else listed f a

-- k actions, the first with the number i
unfoldable pub finish_from : ℕ → ℕ → List ℕ → List ℕ → List ℕ → List ℕ → ℕ → ℕ → Sizing → Listed Finished
finish_from zero i s t a m base ptr z = listed (finished 0 z) a
finish_from (suc k) i s t a m base ptr z =
    then_f (finish_op s t a m (place base i) ptr z) λ y b. finish_from k (suc i) s t b m base ptr y

unfoldable pub finish_actions : List ℕ → List ℕ → List ℕ → List ℕ → ℕ → ℕ → ℕ → Sizing → Listed Finished
finish_actions s t a m base n ptr z = finish_from n 0 s t a m base ptr z

-- Marks the subtable that an action builds.
unfoldable pub mark_build : ℕ → ℕ → List Bool → List Bool
mark_build kind number built = when kind == 5 then set built number true else built

unfoldable pub mark_action : List ℕ → ℕ → ℕ → List Bool → List Bool
mark_action a base i built = mark_build (slice_index a (place base i + 0)) (slice_index a (place base i + 2)) built

unfoldable pub mark_built : List ℕ → ℕ → ℕ → List Bool → List Bool
mark_built a base n built = run n 0 (mark_action a base) built

unfoldable pub write_build : List ℕ → ℕ → ℕ → List ℕ
write_build a at number = slice_set (slice_set (zero_words a at 0) (at + 0) 5) (at + 2) number

-- a Build of subtable i behind k others, unless it is built
unfoldable pub implicit_build : List Bool → ℕ → Listed ℕ → Listed ℕ
implicit_build built i x =
    then_l x λ k a. when get_or built i false then listed k a else listed ((k + 1) % 2 ^ 64) (write_build a (place 0 k) i)

-- of the first n subtables, a Build of each that is not built; how many
unfoldable pub implicit_builds : List ℕ → List Bool → ℕ → Listed ℕ
implicit_builds a built n = run n 0 (implicit_build built) (listed 0 a)

unfoldable pub move_word : ℕ → ℕ → ℕ → List ℕ → List ℕ
move_word from to i l = slice_set l (to + i) (slice_index l (from + i))

unfoldable pub move_action : List ℕ → ℕ → ℕ → List ℕ
move_action a from to = run 24 0 (move_word from to) a

-- action i from one position on to another position on
unfoldable pub move_to : ℕ → ℕ → ℕ → List ℕ → List ℕ
move_to base to i l = move_action l (place base i) (place to i)

-- n actions from a position to behind k others
unfoldable pub move_down : List ℕ → ℕ → ℕ → ℕ → List ℕ
move_down a base k n =
    when base == place 0 k then a else run n 0 (move_to base (place 0 k)) a

unfoldable pub zero_from : List ℕ → ℕ → List ℕ
zero_from l from = take from l ++ replicate (length l - from) 0

-- the list in its final order, and how many actions it has
unfoldable pub assemble : List ℕ → ℕ → ℕ → Listed ℕ
assemble a subtables n =
    then_l (implicit_builds a (mark_built a (place 0 subtables) n (replicate 32 false)) subtables) λ k b.
    listed ((k + n) % 2 ^ 64) (zero_from (move_down b (place 0 subtables) k n) (place 0 ((k + n) % 2 ^ 64)))
