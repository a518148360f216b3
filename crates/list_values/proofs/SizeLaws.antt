-- Sums of errors.
use Rattle.std.proofs.Common.{◌≡◌, ℕ, ◌+◌, ◌≤◌, arith}
use Rattle.std.proofs.lemmas.Bool.Decides.{nat_tests}
use Rattle.list_values.specs.declared.sizes.Sizing.{Sizing}
use Rattle.list_values.specs.Sizes.{sum_of_errors, recorded}

pub sum_below : (x y : ℕ) → x + y ≤ 18446744073709551615 → x + y ≡ sum_of_errors x y
unfolding sum_of_errors
sum_below x y h = grind (arith, nat_tests)

-- first n errors, then k
pub record_sum : (z : Sizing) (n k : ℕ) → recorded (sum_of_errors n k) z ≡ recorded k (recorded n z)
unfolding recorded sum_of_errors
record_sum z n k = grind (arith, nat_tests)
