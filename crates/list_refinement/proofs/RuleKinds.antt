-- Each operation's size rule is of its kind, in the words as in the definition.
use mathlib.Core.Path.{refl}
use Rattle.definition.specs.Operations.{Operation, operation_number}
use Rattle.definition.specs.Sizes as d
use Rattle.definition.specs.Sizes.{rules}
use Rattle.definition.proofs.EveryOperation.{alike}
use Rattle.definition.proofs.Openers.{operations_opens}
use Rattle.list_pushes.specs.Rules.{rule_of}
use Rattle.list_refinement.specs.RuleKinds.{rule_number, rule_steps, kind_of, RuledAs}

pub ruled : (op : Operation) → RuledAs op (kind_of op)
unfolding kind_of rule_number rule_steps d.rule_of rules operations_opens
ruled op = record {
  words = alike (λ op. rule_of (operation_number op)) (λ op. rule_number (kind_of op)) refl op;
  steps = alike d.rule_of (λ op. rule_steps (kind_of op)) refl op;
}
