-- The size rule of each operation, applied to the action at a position. In all of these s is the stream, t the section's
-- table, a the actions, m the temporaries, z the record of errors, ptr the pointer size.
use Rattle.std.specs.Prelude.{ℕ, ◌+◌, Bool, List, get_or, eqb, ltb}
use Rattle.list_values.specs.declared.sizes.Sizing.{Sizing}
use Rattle.prelude.specs.Base.{when◌then◌else◌}
use Rattle.list_values.specs.Sizes.{Sized, sized, then_s, set_operand, set_three, set_size_of_pair, set_size_of_triple, set_unsized}

-- Which rule an operation has: 0 none, 1 pair, 2 shift, 3 triple, 4 comparison, 5 boolean, 6 not, 7 nan, 8 pointer,
-- 9 branch, 10 condition.

-- of integer arithmetic, shifts, comparisons, float arithmetic and comparisons, and to or, booleans and carries
unfoldable pub rule_of_operator : ℕ → ℕ
rule_of_operator op =
    when ltb op 7 then 3
    else when ltb op 10 then 2
    else when ltb op 16 then 4
    else when ltb op 20 then 3
    else when ltb op 24 then 4
    else when ltb op 27 then 3
    else when ltb op 30 then 5
    else 4

unfoldable pub rule_of_one_input : ℕ → ℕ
rule_of_one_input op =
    when ltb op 39 then 0
    else when ltb op 40 then 6
    else when ltb op 42 then 1
    else when ltb op 43 then 7
    else when ltb op 45 then 0
    else when ltb op 51 then 1
    else 0

unfoldable pub rule_of_other : ℕ → ℕ
rule_of_other op =
    when eqb op 57 then 1
    else when eqb op 58 then 8
    else when eqb op 59 then 8
    else when eqb op 60 then 9
    else when eqb op 61 then 10
    else 0

unfoldable pub rule_of : ℕ → ℕ
rule_of op = when ltb op 33 then rule_of_operator op else when ltb op 57 then rule_of_one_input op else rule_of_other op

unfoldable pub shift : List ℕ → List ℕ → Bool → List ℕ → List ℕ → ℕ → ℕ → Sizing → Sized
shift s t fallback a m at ptr z = then_s (set_size_of_pair s t fallback a m at 6 4 ptr z) λ y b w. set_unsized s t b w at 8 ptr y

unfoldable pub comparison : List ℕ → List ℕ → Bool → List ℕ → List ℕ → ℕ → ℕ → Sizing → Sized
comparison s t fallback a m at ptr z = then_s (set_size_of_pair s t fallback a m at 6 8 ptr z) λ y b w. set_operand s t b w at 4 1 y

unfoldable pub bool_not : List ℕ → List ℕ → List ℕ → List ℕ → ℕ → Sizing → Sized
bool_not s t a m at z = then_s (set_operand s t a m at 6 1 z) λ y b w. set_operand s t b w at 4 1 y

unfoldable pub branch : List ℕ → List ℕ → List ℕ → List ℕ → ℕ → ℕ → Sizing → Sized
branch s t a m at ptr z = then_s (set_operand s t a m at 6 1 z) λ y b w. set_unsized s t b w at 8 ptr y

unfoldable pub few_operands : List ℕ → List ℕ → ℕ → List ℕ → List ℕ → ℕ → ℕ → Sizing → Sized
few_operands s t rule a m at ptr z =
    when eqb rule 6 then bool_not s t a m at z
    else when eqb rule 7 then set_operand s t a m at 4 1 z
    else when eqb rule 8 then set_operand s t a m at 6 ptr z
    else when eqb rule 9 then branch s t a m at ptr z
    else when eqb rule 10 then set_operand s t a m at 6 1 z
    else sized z a m

unfoldable pub apply_rule : List ℕ → List ℕ → ℕ → Bool → List ℕ → List ℕ → ℕ → ℕ → Sizing → Sized
apply_rule s t rule fallback a m at ptr z =
    when eqb rule 1 then set_size_of_pair s t fallback a m at 6 4 ptr z
    else when eqb rule 2 then shift s t fallback a m at ptr z
    else when eqb rule 3 then set_size_of_triple s t fallback a m at ptr z
    else when eqb rule 4 then comparison s t fallback a m at ptr z
    else when eqb rule 5 then set_three s t a m at 1 z
    else few_operands s t rule a m at ptr z

-- the operation's rule; other actions are not sized here
unfoldable pub update_operand_sizes : List ℕ → List ℕ → Bool → List ℕ → List ℕ → ℕ → ℕ → Sizing → Sized
update_operand_sizes s t fallback a m at ptr z =
    when eqb (get_or a (at + 0) 0) 0 then apply_rule s t (rule_of (get_or a (at + 1) 0)) fallback a m at ptr z else sized z a m
