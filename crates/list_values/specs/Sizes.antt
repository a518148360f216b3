-- Known sizes, and setting one: in the operand, in its temporary, or as a recorded error. In all of these s is the stream, t
-- the section's table, a the actions and m the temporaries.
use Rattle.std.specs.Prelude.{ℕ, ◌+◌, ◌*◌, ◌/◌, ◌%◌, ◌≡◌, Bool, true, false, List, get_or, set, eqb, leb}
use Rattle.access.specs.Le.{le16}
use Rattle.list_values.specs.declared.value.Value.{Value}
use Rattle.list_values.specs.declared.sizes.Sizing.{Sizing}
use Rattle.list_values.specs.Base.{Listed, listed, then_l}
use Rattle.prelude.specs.Base.{when◌then◌else◌}
use Rattle.list_values.specs.Values.{value_at, put_size}

-- a sizing, the actions and the temporaries
pub data Sized : Type 0 where
  sized : Sizing → List ℕ → List ℕ → Sized

unfoldable pub then_s : {A : Type 0} → Sized → (Sizing → List ℕ → List ℕ → A) → A
then_s (sized z a m) f = f z a m

-- so many bytes into list k
unfoldable pub entry : List ℕ → ℕ → ℕ → ℕ
entry t k bytes = get_or t (3328 + k % 16) 0 + bytes % 1048576

-- the size of entry i of list k, whose entries are a name and a size
unfoldable pub list_size : List ℕ → List ℕ → ℕ → ℕ → ℕ
list_size s t k i = le16 s (entry t k (i % 65536 * 4 + 2))

unfoldable pub export_size_of : List ℕ → List ℕ → ℕ → ℕ
export_size_of s t i = list_size s t 3 (list_size s t 8 i)

unfoldable pub tmp_size : List ℕ → ℕ → ℕ
tmp_size m i = get_or m i 0 / 65536 % 65536

-- of a register, a field or a table export
unfoldable pub listed_size : List ℕ → List ℕ → ℕ → ℕ → ℕ
listed_size s t kind number =
    when eqb kind 2 then list_size s t 1 number
    else when eqb kind 3 then list_size s t 7 number
    else when eqb kind 4 then export_size_of s t number
    else when eqb kind 5 then export_size_of s t number
    else 65535

-- the same, or of a temporary
unfoldable pub size_of_local : List ℕ → List ℕ → List ℕ → ℕ → ℕ → ℕ
size_of_local s t m kind number = when eqb kind 6 then tmp_size m number else listed_size s t kind number

-- the known size: its own, else that of its register, table export, field or temporary; 65,535 for none
unfoldable pub size_of : List ℕ → List ℕ → List ℕ → Value → ℕ
size_of s t m v = when eqb v.size 65535 then size_of_local s t m v.kind v.number else v.size

unfoldable pub size_at : List ℕ → List ℕ → List ℕ → List ℕ → ℕ → ℕ → ℕ
size_at s t a m at i = size_of s t m (value_at a at i)

-- the sum, up to the greatest number of a word
unfoldable pub sum_of_errors : ℕ → ℕ → ℕ
sum_of_errors x y = when leb (x + y) 18446744073709551615 then x + y else 18446744073709551615

-- so many errors more, the first of all with its ordinal
unfoldable pub recorded : ℕ → Sizing → Sizing
recorded n z =
    when eqb n 0
    then z
    else record {
      begun = z.begun;
      errors = sum_of_errors z.errors n;
      first = when eqb z.errors 0 then z.begun else z.first;
    }

unfoldable pub error : Sizing → Sizing
error z = recorded 1 z

-- an unknown size on a temporary sizes it everywhere
unfoldable pub size_temporary : List ℕ → Value → ℕ → List ℕ
size_temporary m v size =
    when eqb v.kind 6
    then set m v.number (get_or m v.number 0 % 65536 + size % 65536 * 65536 + get_or m v.number 0 / 4294967296 * 4294967296)
    else m

-- a different known size is an error, but for a subtable
unfoldable pub settled : List ℕ → Value → ℕ → ℕ → Sizing → Listed Sizing
settled m v known size z =
    when eqb known 65535 then listed z (size_temporary m v size)
    else when eqb known size then listed z m
    else when eqb v.kind 4 then listed z m
    else listed (error z) m

-- in every case the operand has the size afterwards
unfoldable pub set_operand : List ℕ → List ℕ → List ℕ → List ℕ → ℕ → ℕ → ℕ → Sizing → Sized
set_operand s t a m at i size z =
    then_l (settled m (value_at a at i) (size_at s t a m at i) size z) λ y w. sized y (put_size a at i size) w

unfoldable pub set_two : List ℕ → List ℕ → List ℕ → List ℕ → ℕ → ℕ → ℕ → ℕ → Sizing → Sized
set_two s t a m at i j size z = then_s (set_operand s t a m at i size z) λ y b w. set_operand s t b w at j size y

unfoldable pub set_three : List ℕ → List ℕ → List ℕ → List ℕ → ℕ → ℕ → Sizing → Sized
set_three s t a m at size z = then_s (set_two s t a m at 6 8 size z) λ y b w. set_operand s t b w at 4 size y

-- whether a value falls back to pointer size: InstStart, InstNext, a field or a constant
unfoldable pub falls_back : Value → Bool
falls_back v =
    when eqb v.kind 0 then true
    else when eqb v.kind 1 then true
    else when eqb v.kind 3 then true
    else when eqb v.kind 7 then true
    else false

unfoldable pub pair_fallback : List ℕ → List ℕ → Bool → List ℕ → List ℕ → ℕ → ℕ → ℕ → ℕ → Sizing → Sized
pair_fallback s t fallback a m at i j ptr z =
    when fallback
    then (when falls_back (value_at a at i) then set_two s t a m at i j ptr z
    else when falls_back (value_at a at j) then set_two s t a m at i j ptr z
    else sized z a m)
    else sized z a m

-- x and y are the known sizes
unfoldable pub share_pair : List ℕ → List ℕ → Bool → List ℕ → List ℕ → ℕ → ℕ → ℕ → ℕ → ℕ → ℕ → Sizing → Sized
share_pair s t fallback a m at i j x y ptr z =
    when eqb x 65535
    then (when eqb y 65535 then pair_fallback s t fallback a m at i j ptr z else set_operand s t a m at i y z)
    else when eqb x y then sized z a m
    else set_operand s t a m at j x z

-- two operands have one size
unfoldable pub set_size_of_pair : List ℕ → List ℕ → Bool → List ℕ → List ℕ → ℕ → ℕ → ℕ → ℕ → Sizing → Sized
set_size_of_pair s t fallback a m at i j ptr z = share_pair s t fallback a m at i j (size_at s t a m at i) (size_at s t a m at j) ptr z

unfoldable pub triple_falls_back : List ℕ → ℕ → Bool
triple_falls_back a at =
    when falls_back (value_at a at 6) then true
    else when falls_back (value_at a at 8) then true
    else falls_back (value_at a at 4)

unfoldable pub triple_fallback : List ℕ → List ℕ → Bool → List ℕ → List ℕ → ℕ → ℕ → Sizing → Sized
triple_fallback s t fallback a m at ptr z =
    when fallback then (when triple_falls_back a at then set_three s t a m at ptr z else sized z a m) else sized z a m

-- the other two take the size of the first known one
unfoldable pub share_size : List ℕ → List ℕ → List ℕ → List ℕ → ℕ → ℕ → ℕ → ℕ → Sizing → Sized
share_size s t a m at x y w z =
    when eqb x 65535
    then (when eqb y 65535 then set_two s t a m at 6 8 w z else set_two s t a m at 6 4 y z)
    else set_two s t a m at 8 4 x z

unfoldable pub all_equal : ℕ → ℕ → ℕ → Bool
all_equal x y w = when eqb x y then eqb y w else false

-- x, y and w are the known sizes of both inputs and the output
unfoldable pub share_triple : List ℕ → List ℕ → Bool → List ℕ → List ℕ → ℕ → ℕ → ℕ → ℕ → ℕ → Sizing → Sized
share_triple s t fallback a m at x y w ptr z =
    when all_equal x y w
    then (when eqb x 65535 then triple_fallback s t fallback a m at ptr z else sized z a m)
    else share_size s t a m at x y w z

-- both inputs and the output have one size
unfoldable pub set_size_of_triple : List ℕ → List ℕ → Bool → List ℕ → List ℕ → ℕ → ℕ → Sizing → Sized
set_size_of_triple s t fallback a m at ptr z =
    share_triple s t fallback a m at (size_at s t a m at 6) (size_at s t a m at 8) (size_at s t a m at 4) ptr z

-- an operand with no known size takes pointer size
unfoldable pub set_unsized : List ℕ → List ℕ → List ℕ → List ℕ → ℕ → ℕ → ℕ → Sizing → Sized
set_unsized s t a m at i ptr z = when eqb (size_at s t a m at i) 65535 then set_operand s t a m at i ptr z else sized z a m

-- Whatever the sizing is, n errors are recorded and the list is as f leaves it.
pub record Settles (n : ℕ) (m : List ℕ) (f : Sizing → Listed Sizing) : Type 0 where
  pub settles : (z : Sizing) → listed (recorded n z) m ≡ f z

-- the same with both lists
pub record Counted (n : ℕ) (a m : List ℕ) (f : Sizing → Sized) : Type 0 where
  pub counted : (z : Sizing) → sized (recorded n z) a m ≡ f z
