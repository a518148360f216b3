-- The size rule of each operation: the code's number of it, the definition's steps, and the operands that they need.
use Rattle.std.specs.Prelude.{ℕ, ◌≡◌, Bool, true, false, List, [], ◌∷◌, get_or}
use Rattle.definition.specs.Sizes as d
use Rattle.prelude.specs.Base.{is_some}
use Rattle.definition.specs.Value.{SemanticAction}
use Rattle.definition.specs.Sizes.{Operand, in0, in1, out, at, one, pointer, Step, equal, exactly, by_default}
use Rattle.definition.specs.Operations.{Operation, operation_number}
use Rattle.list_pushes.specs.Rules.{rule_of, rule_of_operator, rule_of_one_input, rule_of_other}

pub data RuleKind : Type 0 where
  unruled pair shift triple comparison boolean negation nan address branch condition : RuleKind

unfoldable pub rule_number : RuleKind → ℕ
rule_number RuleKind.unruled = 0
rule_number RuleKind.pair = 1
rule_number RuleKind.shift = 2
rule_number RuleKind.triple = 3
rule_number RuleKind.comparison = 4
rule_number RuleKind.boolean = 5
rule_number RuleKind.negation = 6
rule_number RuleKind.nan = 7
rule_number RuleKind.address = 8
rule_number RuleKind.branch = 9
rule_number RuleKind.condition = 10

unfoldable pub rule_steps : RuleKind → List Step
rule_steps RuleKind.unruled = []
rule_steps RuleKind.pair = equal (in0 ∷ out ∷ []) ∷ []
rule_steps RuleKind.shift = equal (in0 ∷ out ∷ []) ∷ by_default in1 pointer ∷ []
rule_steps RuleKind.triple = equal (in0 ∷ in1 ∷ out ∷ []) ∷ []
rule_steps RuleKind.comparison = equal (in0 ∷ in1 ∷ []) ∷ exactly out one ∷ []
rule_steps RuleKind.boolean = exactly in0 one ∷ exactly in1 one ∷ exactly out one ∷ []
rule_steps RuleKind.negation = exactly in0 one ∷ exactly in1 one ∷ exactly out one ∷ []
rule_steps RuleKind.nan = exactly out one ∷ []
rule_steps RuleKind.address = exactly in0 pointer ∷ []
rule_steps RuleKind.branch = exactly in0 one ∷ by_default in1 pointer ∷ []
rule_steps RuleKind.condition = exactly in0 one ∷ []

-- the kinds in the order of their numbers
unfoldable rule_kinds : List RuleKind
rule_kinds =
    RuleKind.unruled ∷ RuleKind.pair ∷ RuleKind.shift ∷ RuleKind.triple ∷ RuleKind.comparison ∷ RuleKind.boolean
    ∷ RuleKind.negation ∷ RuleKind.nan ∷ RuleKind.address ∷ RuleKind.branch ∷ RuleKind.condition ∷ []

unfoldable pub kind_of : Operation → RuleKind
unfolding rule_kinds rule_of rule_of_operator rule_of_one_input rule_of_other operation_number
kind_of op = get_or rule_kinds (rule_of (operation_number op)) RuleKind.unruled

-- whether an action has an operand
abbrev pub has : Operand → SemanticAction → Bool
has p x = is_some (at p x)

-- the operands that a rule sets; a negation has one input
abbrev pub Operands : RuleKind → SemanticAction → Type 0
Operands RuleKind.unruled x = Unit {0}
Operands RuleKind.pair x = (has in0 x ≡ true) × (has out x ≡ true)
Operands RuleKind.shift x = (has in0 x ≡ true) × (has in1 x ≡ true) × (has out x ≡ true)
Operands RuleKind.triple x = (has in0 x ≡ true) × (has in1 x ≡ true) × (has out x ≡ true)
Operands RuleKind.comparison x = (has in0 x ≡ true) × (has in1 x ≡ true) × (has out x ≡ true)
Operands RuleKind.boolean x = (has in0 x ≡ true) × (has in1 x ≡ true) × (has out x ≡ true)
Operands RuleKind.negation x = (has in0 x ≡ true) × (has in1 x ≡ false) × (has out x ≡ true)
Operands RuleKind.nan x = has out x ≡ true
Operands RuleKind.address x = has in0 x ≡ true
Operands RuleKind.branch x = (has in0 x ≡ true) × (has in1 x ≡ true)
Operands RuleKind.condition x = has in0 x ≡ true

pub record RuledAs (op : Operation) (k : RuleKind) : Type 0 where
  pub words : rule_of (operation_number op) ≡ rule_number k
  pub steps : d.rule_of op ≡ rule_steps k
