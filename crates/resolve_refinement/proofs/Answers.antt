-- A refusal's answer as the definition has it.
use Prim.Native.Nat.{ℕ, ◌-◌}
use mathlib.Core.Path.{◌≡◌}
use mathlib.Core.List.{List}
use mathlib.Core.Option.{Option}
use native.Mathlib.Omega.{arith}
use lib.ListN.{length, replicate}
use Rattle.definition.specs.Refusals.{Refusal, refusal_number}
use Rattle.definition.specs.ActionList as d
use Rattle.definition.specs.ActionList.{or_none}
use Rattle.list_end.specs.End.{zero_from}
use Rattle.resolve_answer.specs.Answers.{refused}
use Rattle.resolve_refinement.specs.Answers.{as_answer}

zero_all : (l : List ℕ) (n : ℕ) → length l ≡ n → zero_from l 0 ≡ replicate n 0
unfolding zero_from
zero_all l n h = let k : length l - 0 ≡ n = omega (arith, h) in rw k

-- a refusal
pub refused_is : (a m : List ℕ) (la lt : ℕ) (r : Refusal) (ordinal : Option ℕ) (errors : ℕ) → length a ≡ la → length m ≡ lt
    → as_answer (refused a m (refusal_number r) (or_none ordinal) errors) ≡ d.refusal la lt r ordinal errors
unfolding as_answer refused d.refusal d.refusal_result
refused_is a m la lt r ordinal errors h k = rw (zero_all a la h, zero_all m lt k)
