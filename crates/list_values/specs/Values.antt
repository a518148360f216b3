-- A value and its two words in a list: its number, and kind + 256 × offset + 2^24 × size.
use Rattle.std.specs.Prelude.{ℕ, ◌+◌, ◌-◌, ◌*◌, ◌/◌, ◌%◌, List, get_or, set, ltb, leb}
use Rattle.list_values.specs.declared.value.Value.{Value}
use Rattle.list_values.specs.Outcomes.{Slice}
use Rattle.access.specs.Loops.{run}
use Rattle.prelude.specs.Base.{when◌then◌else◌}

-- a value at offset 0 with no size of its own
abbrev pub local : ℕ → ℕ → Value
local kind number = record { kind = kind; number = number; offset = 0; size = 65535 }

abbrev pub with_size : ℕ → Value → Value
with_size size v = record { kind = v.kind; number = v.number; offset = v.offset; size = size }

-- what stands for an operand that is not there
abbrev pub absent : Value
absent = record { kind = 0; number = 0; offset = 0; size = 0 }

-- the output of an Op that has none
abbrev pub no_output : Value
no_output = record { kind = 255; number = 0; offset = 0; size = 0 }

-- so many bytes of a value, from a byte on, unless their offset passes 65,535
unfoldable pub slice_bytes : Value → ℕ → ℕ → Slice
slice_bytes v more size =
    when leb (v.offset + more) 65535
    then Slice.Is (record { kind = v.kind; number = v.number; offset = v.offset + more; size = size })
    else Slice.No 42

-- the second word
unfoldable pub word : Value → ℕ
word v = v.kind % 256 + v.offset % 65536 * 256 + v.size % 65536 * 16777216

unfoldable pub value_of : ℕ → ℕ → Value
value_of number w = record { kind = w % 256; number = number; offset = w / 256 % 65536; size = w / 16777216 % 65536 }

-- the value whose first word is i after a position
unfoldable pub value_at : List ℕ → ℕ → ℕ → Value
value_at l at i = value_of (get_or l (at + i) 0) (get_or l (at + (i + 1)) 0)

unfoldable pub put_value : List ℕ → ℕ → ℕ → Value → List ℕ
put_value l at i v = set (set l (at + i) v.number) (at + (i + 1)) (word v)

unfoldable pub put_size : List ℕ → ℕ → ℕ → ℕ → List ℕ
put_size l at i size = set l (at + (i + 1)) (get_or l (at + (i + 1)) 0 % 16777216 + size % 65536 * 16777216)

-- where action i stands in a list whose first is at a position
unfoldable pub place : ℕ → ℕ → ℕ
place base i = when ltb base 4096 then (when ltb i 700000000000000000 then base + i * 24 else 0) else 0

-- the word i after a position made 0
abbrev pub zero_word : ℕ → ℕ → List ℕ → List ℕ
zero_word at i l = set l (at + i) 0

-- an action's words from one of them on made 0
unfoldable pub zero_words : List ℕ → ℕ → ℕ → List ℕ
zero_words l at from = run (24 - from) from (zero_word at) l
