-- The numbers that the words give to the rules; and the words of the three rules that begin with a pair.
use Rattle.std.specs.Prelude.{ℕ, Bool, List}
use Rattle.list_values.specs.declared.sizes.Sizing.{Sizing}
use Rattle.list_values.specs.Sizes.{Sized, set_size_of_pair}
use Rattle.list_pushes.specs.Rules.{shift, comparison}
use Rattle.list_pushes.specs.declared.rules.Paired.{Paired}
use Rattle.list_pushes.specs.declared.rules.Rule.{Rule}

abbrev pub rule_number : Rule → ℕ
rule_number Rule.Unsized = 0
rule_number (Rule.Paired Paired.Alone) = 1
rule_number (Rule.Paired Paired.Shift) = 2
rule_number Rule.Triple = 3
rule_number (Rule.Paired Paired.Comparison) = 4
rule_number Rule.Boolean = 5
rule_number Rule.Not = 6
rule_number Rule.Nan = 7
rule_number Rule.Pointer = 8
rule_number Rule.Branch = 9
rule_number Rule.Condition = 10

abbrev pub partner : Paired → ℕ
partner Paired.Alone = 4
partner Paired.Shift = 4
partner Paired.Comparison = 8

abbrev pub pair_rule : List ℕ → List ℕ → Paired → Bool → List ℕ → List ℕ → ℕ → ℕ → Sizing → Sized
pair_rule s t Paired.Alone fallback a m at ptr z = set_size_of_pair s t fallback a m at 6 4 ptr z
pair_rule s t Paired.Shift fallback a m at ptr z = shift s t fallback a m at ptr z
pair_rule s t Paired.Comparison fallback a m at ptr z = comparison s t fallback a m at ptr z
