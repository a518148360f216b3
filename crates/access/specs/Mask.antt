-- Masks.
use Rattle.std.specs.Prelude.{ℕ, ◌-◌, ◌^◌, min}

-- the low n bits set, all 64 from n = 64
abbrev pub mask_of : ℕ → ℕ
mask_of n = 2 ^ min n 64 - 1
