-- What the wide reads, `zero_from` and `mask` stand on.
use mathlib.Core.Path.{◌≡◌, sym, ◌∙◌, subst}
use mathlib.Core.List.{List}
use Prim.Native.Nat.{ℕ, ◌+◌, ◌-◌, ◌*◌, ◌%◌, ◌^◌, ◌≤◌, ◌<◌, min}
use native.Mathlib.Nat.{one-mul, add-zero, add_assoc, min-eq_left, min-eq_right}
use native.Mathlib.Numerals.{one-add}
use native.Mathlib.Omega.{arith}
use lib.Dec.{lit<}
use lib.Pow.{shl_exact}
use lib.ListN.{length, get_or, get_or-eq_default}
use lib.Seq.{set_out}
use Rattle.access.specs.Le.{le16, le32, le64}

-- no element past the end: a read is the 0, and a write changes nothing
pub ruleset past_end = (get_or-eq_default, set_out)

pub ruleset at_start = (add-zero)

-- two bytes of which the second is past the end, or both
pub last_law : (s : List ℕ) (p i a : ℕ) → (a ≡ get_or s (p + i) 0) × (a < 256) → length s ≤ p + i + 1 → (a ≡ le16 s (p + i)) × (a < 65536)
unfolding le16
last_law s p i a h l = let z = get_or-eq_default s 0 {n = p + i + 1} l in (omega arith, omega arith)

pub quad_law : (s : List ℕ) (p i a b : ℕ) → (a ≡ le16 s (p + i)) × (a < 65536) → (b ≡ le16 s (p + (i + 2))) × (b < 65536) → (a + 65536 * b ≡ le32 s (p + i)) × (a + 65536 * b < 4294967296)
unfolding le32
quad_law s p i a b h k = (rw (add_assoc p i 2, ← h.0, ← k.0), omega arith)

pub whole_law : (s : List ℕ) (p a b : ℕ) → (a ≡ le32 s (p + 0)) × (a < 4294967296) → (b ≡ le32 s (p + 4)) × (b < 4294967296) → a + 4294967296 * b ≡ le64 s p
unfolding le64
whole_law s p a b h k = rw (← k.0, h.0, add-zero)

-- `1 << n`, which the machine has as a product cut to 64 bits
pub one_shl : (n : ℕ) → n < 64 → (1 * 2 ^ n) % 2 ^ 64 ≡ 2 ^ n
one_shl n h = shl_exact {a = 1} 1 n 64 (lit< tt) (subst (λ (x : ℕ). x ≤ 64) (sym (one-add n)) h) ∙ one-mul (2 ^ n)

pub mask_low : (n : ℕ) → n < 64 → (1 * 2 ^ n) % 2 ^ 64 - 1 ≡ 2 ^ min n 64 - 1
mask_low n h = let k : min n 64 ≡ n = min-eq_left (omega arith) in rw (k, one_shl n h)

pub mask_all : (n : ℕ) → 64 ≤ n → 18446744073709551615 ≡ 2 ^ min n 64 - 1
mask_all n h = let k : min n 64 ≡ 64 = min-eq_right h in rw k

pub ruleset mask_laws = (mask_low, mask_all)
