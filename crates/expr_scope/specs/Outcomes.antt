-- What a name means and what a search for it gives, as the words have it.
use Rattle.std.specs.Prelude.{ℕ, suc, Option, Some, None, Result, Ok, Err}
use Rattle.codes.specs.declared.refusal.Refusal.{Refusal}
use Rattle.codes.specs.Refusals.{number}
use Rattle.list_values.specs.declared.value.Value.{Value}
use Rattle.list_pushes.specs.declared.push.State.{State}
use Rattle.expr_scope.specs.declared.scope.ExprValue.{ExprValue}
use Rattle.expr_scope.specs.declared.symbols.Symbol as symbols

pub data Meaning : Type 0 where
  Means : ExprValue → Meaning
  Wrong : ℕ → Meaning

abbrev pub to_meaning : Result ExprValue Refusal → Meaning
to_meaning (Ok x) = Meaning.Means x
to_meaning (Err refusal) = Meaning.Wrong (number refusal)

-- arguments resolved: where they end, and the state
pub data Args : Type 0 where
  Done : ℕ → State → Args
  No : ℕ → Args

abbrev pub to_args : Result (ℕ × State) Refusal → Args
to_args (Ok x) = Args.Done x.0 x.1
to_args (Err refusal) = Args.No (number refusal)

-- what a search for a local gives
pub data Found : Type 0 where
  Is : Value → Found
  Nothing : Found

abbrev pub to_found : Option Value → Found
to_found (Some v) = Found.Is v
to_found None = Found.Nothing

-- what a name is that may mean a plain local: such a local; what only `resolve_ident` tells; or nothing that it may mean
pub data Plain : Type 0 where
  Is : Value → Plain
  Untold : Plain
  Wrong : ℕ → Plain

abbrev pub to_plain : Result (Option Value) Refusal → Plain
to_plain (Ok (Some v)) = Plain.Is v
to_plain (Ok None) = Plain.Untold
to_plain (Err refusal) = Plain.Wrong (number refusal)

-- one more than an index, 0 where there is none
abbrev pub one_more : Option ℕ → ℕ
one_more (Some i) = suc i
one_more None = 0

-- what a global is, with its place in the list of its kind; a name of none is undefined
pub data Symbol : Type 0 where
  Undefined : Symbol
  Space : ℕ → Symbol
  Register : ℕ → Symbol
  BitRange : ℕ → Symbol
  Table : ℕ → Symbol
  UserOp : ℕ → Symbol
  Macro : ℕ → Symbol
  Other : ℕ → Symbol

abbrev pub to_symbol : Option symbols.Symbol → Symbol
to_symbol None = Symbol.Undefined
to_symbol (Some (symbols.Symbol.Space i)) = Symbol.Space i
to_symbol (Some (symbols.Symbol.Register i)) = Symbol.Register i
to_symbol (Some (symbols.Symbol.BitRange i)) = Symbol.BitRange i
to_symbol (Some (symbols.Symbol.Table i)) = Symbol.Table i
to_symbol (Some (symbols.Symbol.UserOp i)) = Symbol.UserOp i
to_symbol (Some (symbols.Symbol.Macro i)) = Symbol.Macro i
to_symbol (Some (symbols.Symbol.Other i)) = Symbol.Other i
