-- How the code's values of expressions, meanings and scopes hold the definition's, and what has to be true of a state and of
-- what an expression means for that.
use Rattle.std.specs.Prelude.{ℕ, ◌+◌, ◌*◌, ◌≤◌, ◌<◌, ◌≡◌, false, List, [], ◌∷◌, length, get_or}
use Rattle.std.proofs.Math.Option.{Option, none, some}
use Rattle.std.proofs.Math.ListN.{get_elem?}
use Rattle.prelude.specs.Base.{or_else}
use Rattle.definition.specs.Operations.{Operation, operation_number, is_op}
use Rattle.definition.specs.Value.{Value, ActionKind, SemanticAction, Temporary}
use Rattle.definition.specs.Ast.{Section, BitRange as BitRangeEntry}
use Rattle.definition.specs.Walk.{ExprValue, State}
use Rattle.definition.specs.ActionList.{or_none, labels_placed}
use Rattle.list_refinement.specs.Encoding.{enc_v, Sound, SoundTmp, Each, SoundAction, first_of, second_of}
use Rattle.expr_scope.specs.declared.scope.ExprValue.{ExprValue as WordExpr}
use Rattle.list_refinement.specs.RuleKinds.{kind_of, Operands}
use Rattle.definition.specs.Refusals.{refusal_number}
use Rattle.definition.specs.Scope.{find, Symbol, Meaning, means, wrong}
use Rattle.list_pushes.specs.declared.push.Env.{Env as WordEnv}
use Rattle.expr_scope.specs.Outcomes.{Found, Meaning as WordMeaning}
use Rattle.expr_scope.specs.Outcomes.{Symbol as WordSymbol}
use Rattle.expr_scope.specs.Slots.{of_slot, slot_at, param_place}
use Rattle.expr_scope.specs.Scopes.{lookup_local}

-- what an expression means; Apply has its inputs, none, one or two, with absent ones behind them
unfoldable pub enc_x : ExprValue → WordExpr
enc_x (ExprValue.Local v) = WordExpr.Local (enc_v v)
enc_x (ExprValue.Unbound v) = WordExpr.Unbound (enc_v v)
enc_x (ExprValue.Const n size) = WordExpr.Const n (or_none size)
enc_x (ExprValue.Apply op n vs) = WordExpr.Apply (record { code = operation_number op; number = n; count = length vs; first = first_of vs; second = second_of vs })
enc_x (ExprValue.RamRef v size) = WordExpr.RamRef (record { pointer = enc_v v; size = size })
enc_x (ExprValue.RegisterRef v size) = WordExpr.RegisterRef (record { pointer = enc_v v; size = size })
enc_x (ExprValue.AddressOf v size) = WordExpr.AddressOf (enc_v v) (or_none size)
enc_x (ExprValue.BitRange v from bits) = WordExpr.BitRange (record { base = enc_v v; bits = record { from = from; count = bits } })

-- an action that an operation makes
abbrev pub op_action : Operation → ℕ → List Value → Option Value → SemanticAction
op_action op n vs to = record { kind = ActionKind.Op op; number = n; inputs = vs; output = to }

-- with any output, the inputs are those that the operation's rule needs; and no label is placed
abbrev pub Applies : Operation → List Value → Type 0
Applies op vs = (n : ℕ) (to : Value) → Operands (kind_of op) (op_action op n vs (some to)) × (is_op Operation.PcodeLabel op ≡ false)

abbrev pub Small : Option ℕ → Type 0
Small z = or_else 0 z < 65535

-- an expression's value that its words hold
abbrev pub SoundX : Section → ℕ → ExprValue → Type 0
SoundX sec n (ExprValue.Local v) = Sound sec n v
SoundX sec n (ExprValue.Unbound v) = Sound sec n v
SoundX sec n (ExprValue.Const c z) = Small z
SoundX sec n (ExprValue.Apply op c vs) = (length vs ≤ 2) × Applies op vs × Each (Sound sec n) vs
SoundX sec n (ExprValue.RamRef v z) = Sound sec n v × (z < 65535)
SoundX sec n (ExprValue.RegisterRef v z) = Sound sec n v × (z < 65535)
SoundX sec n (ExprValue.AddressOf v z) = Sound sec n v × Small z
SoundX sec n (ExprValue.BitRange v from bits) = Sound sec n v × (from + bits ≤ 16384)

abbrev pub tmps : State → List Temporary
tmps st = st.sizing.temporaries

abbrev pub count : State → ℕ
count st = length (tmps st)

-- A state that the lent words hold: the actions and temporaries have room there, their values and those of the scope are
-- sound, and there are at most four errors for each action, and so many to spare.
pub record Stood (sec : Section) (tail rest : List ℕ) (spare : ℕ) (st : State) : Type 0 where
  pub actions : 24 * length st.actions ≤ length tail
  pub temporaries : count st ≤ length rest
  pub sizes : Each SoundTmp (tmps st)
  pub errors : length st.sizing.errors ≤ spare + 4 * length st.actions
  pub sound : Each (SoundAction sec (count st)) st.actions
  pub params : Each (λ (p : ℕ × ExprValue). SoundX sec (count st) p.1) st.scope.params
  pub mapping : Each (λ (p : ℕ × Value). Sound sec (count st) p.1) st.scope.mapping

-- From one state to a later one an expression changes only actions, temporaries and errors.
pub record Later (from st : State) : Type 0 where
  pub temporaries : count from ≤ count st
  pub statements : st.statements ≡ from.statements
  pub scope : st.scope ≡ from.scope
  pub next_label : st.next_label ≡ from.next_label
  pub export : st.export ≡ from.export
  pub begun : st.sizing.begun ≡ from.sizing.begun
  pub actions : length from.actions ≤ length st.actions
  pub placed : labels_placed st.actions ≡ labels_placed from.actions

unfoldable pub enc_m : Meaning → WordMeaning
enc_m (means x) = WordMeaning.Means (enc_x x)
enc_m (wrong r) = WordMeaning.Wrong (refusal_number r)

-- what a name means is sound
abbrev pub SoundM : Section → ℕ → Meaning → Type 0
SoundM sec n (means x) = SoundX sec n x
SoundM sec n (wrong r) = Unit {0}

unfoldable pub enc_f : Option Value → Found
enc_f none = Found.Nothing
enc_f (some v) = Found.Is (enc_v v)

-- Parameters: the last one is in front. The slot of each has its name and what it means.
abbrev pub ParamsIn : List ℕ → List (ℕ × ExprValue) → Type 0
ParamsIn p [] = Unit {0}
ParamsIn p (x ∷ xs) = (get_or p (param_place (length xs) + 0) 0 ≡ x.0) × (of_slot (slot_at p (param_place (length xs))) ≡ enc_x x.1) × ParamsIn p xs

-- The words hold the scope: its parameters stand in their slots, and the table and the scope's list give its locals.
pub record Scoped (t p : List ℕ) (we : WordEnv) (st : State) : Type 0 where
  pub params : ParamsIn p st.scope.params
  pub counted : we.count ≡ length st.scope.params
  pub locals : (name : ℕ) → name < 1024 → lookup_local t p we.own name ≡ enc_f (find name st.scope.mapping)

-- the global of a name, as its word in the table tells it
unfoldable pub enc_symbol : Option Symbol → WordSymbol
enc_symbol none = WordSymbol.Undefined
enc_symbol (some (Symbol.Space i x)) = WordSymbol.Space i
enc_symbol (some (Symbol.Register i x)) = WordSymbol.Register i
enc_symbol (some (Symbol.BitRange i x)) = WordSymbol.BitRange i
enc_symbol (some (Symbol.Table i x)) = WordSymbol.Table i
enc_symbol (some (Symbol.UserOp i)) = WordSymbol.UserOp i
enc_symbol (some (Symbol.Macro i x)) = WordSymbol.Macro i
enc_symbol (some (Symbol.Other i)) = WordSymbol.Other i

-- the bit ranges name registers, and their bits are within limits
pub record BitRangesFit (sec : Section) : Type 0 where
  pub register : (i : ℕ) (b : BitRangeEntry) → get_elem? sec.bit_ranges i ≡ some b → b.register < length sec.registers
  pub bits : (i : ℕ) (b : BitRangeEntry) → get_elem? sec.bit_ranges i ≡ some b → b.first_bit + b.bit_count ≤ 16384
