-- The bits of a number by a mask.
use mathlib.Core.Path.{◌≡◌}
use Prim.Native.Nat.{ℕ, ◌/◌, ◌^◌, min}
use lib.Bits.{bit_and, and_mask}
use Rattle.access.specs.Mask.{mask_of}
use Rattle.expr_terms.specs.Slices.{low_bits}

pub low_bits_law : (x from bits k : ℕ) → k ≡ mask_of bits → bit_and (x / 2 ^ from) k ≡ low_bits x from bits
low_bits_law x from bits k e = rw e (and_mask (x / 2 ^ from) (min bits 64))
