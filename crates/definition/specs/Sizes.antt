-- SIZES: the rules, and what they do to operands, temporaries and recorded errors.
use Rattle.std.specs.Prelude.{ℕ, Bool, true, false, ◌||◌, List, [], ◌∷◌, ◌++◌, set, eqb}
use Rattle.std.proofs.Math.Option.{Option, none, some}
use Rattle.std.proofs.Math.ListN.{get_elem?}
use Rattle.prelude.specs.Base.{when◌then◌else◌, ◌or◌, or_else, and_then, is_some, all, first, contains}
use Rattle.definition.specs.Operations.{Operation, among}
use Rattle.definition.specs.Value.{Kind, Value, is_kind, truncate, SemanticAction, operation_of, Temporary}
use Rattle.definition.specs.Ast.{Space, Register, Table, Field, Subtable, Section}

-- The rules, as a table from operations to steps.

pub data Operand : Type 0 where
  in0 in1 out : Operand

pub data FixedSize : Type 0 where
  one pointer : FixedSize

-- in bytes, given the pointer size
unfoldable pub fixed_size : ℕ → FixedSize → ℕ
fixed_size pointer_size one = 1
fixed_size pointer_size pointer = pointer_size

pub data Step : Type 0 where
  -- these operands have one size
  equal : List Operand → Step
  -- this operand has that size
  exactly : Operand → FixedSize → Step
  -- this operand takes that size where it is unsized
  by_default : Operand → FixedSize → Step

pub record Rule : Type 0 where
  pub operations : List Operation
  pub steps : List Step

unfoldable pub rules : List Rule
rules =
    record {
      operations =
          Operation.Copy ∷ Operation.IntNot ∷ Operation.IntNegate ∷ Operation.FloatNegate ∷ Operation.FloatAbs
          ∷ Operation.FloatSqrt ∷ Operation.FloatCeil ∷ Operation.FloatFloor ∷ Operation.FloatRound ∷ [];
      steps = equal (in0 ∷ out ∷ []) ∷ [];
    }
    -- shifts
    ∷ record {
      operations = Operation.IntLeft ∷ Operation.IntRight ∷ Operation.IntSignedRight ∷ [];
      steps = equal (in0 ∷ out ∷ []) ∷ by_default in1 pointer ∷ [];
    }
    -- integer and float arithmetic, and, xor, or
    ∷ record {
      operations =
          Operation.IntMul ∷ Operation.IntDiv ∷ Operation.IntSignedDiv ∷ Operation.IntRem ∷ Operation.IntSignedRem
          ∷ Operation.IntAdd ∷ Operation.IntSub ∷ Operation.IntAnd ∷ Operation.IntXor ∷ Operation.IntOr
          ∷ Operation.FloatDiv ∷ Operation.FloatMul ∷ Operation.FloatAdd ∷ Operation.FloatSub ∷ [];
      steps = equal (in0 ∷ in1 ∷ out ∷ []) ∷ [];
    }
    -- carries and comparisons
    ∷ record {
      operations =
          Operation.IntCarry ∷ Operation.IntSignedCarry ∷ Operation.IntSignedBorrow
          ∷ Operation.IntSignedLess ∷ Operation.IntSignedLessEqual ∷ Operation.IntLess ∷ Operation.IntLessEqual
          ∷ Operation.IntEqual ∷ Operation.IntNotEqual
          ∷ Operation.FloatLess ∷ Operation.FloatLessEqual ∷ Operation.FloatEqual ∷ Operation.FloatNotEqual ∷ [];
      steps = equal (in0 ∷ in1 ∷ []) ∷ exactly out one ∷ [];
    }
    -- boolean operations
    ∷ record {
      operations = Operation.BoolXor ∷ Operation.BoolAnd ∷ Operation.BoolOr ∷ Operation.BoolNot ∷ [];
      steps = exactly in0 one ∷ exactly in1 one ∷ exactly out one ∷ [];
    }
    -- nan
    ∷ record { operations = Operation.FloatIsNan ∷ []; steps = exactly out one ∷ [] }
    ∷ record { operations = Operation.Load ∷ Operation.Store ∷ []; steps = exactly in0 pointer ∷ [] }
    ∷ record { operations = Operation.Branch ∷ []; steps = exactly in0 one ∷ by_default in1 pointer ∷ [] }
    ∷ record { operations = Operation.PcodeBranch ∷ []; steps = exactly in0 one ∷ [] }
    ∷ []

-- others: no rule
unfoldable pub rule_of : Operation → List Step
rule_of op = or_else [] (first (λ (r : Rule). when among r.operations op then some r.steps else none) rules)

unfoldable pub steps_of : Option Operation → List Step
steps_of (some op) = rule_of op
steps_of none = []

-- all but the first that passes
unfoldable pub but_first : (Operand → Bool) → List Operand → List Operand
but_first passes [] = []
but_first passes (p ∷ ps) = when passes p then ps else p ∷ but_first passes ps

unfoldable pub at : Operand → SemanticAction → Option Value
at in0 a = get_elem? a.inputs 0
at in1 a = get_elem? a.inputs 1
at out a = a.output

unfoldable pub put : Operand → Value → SemanticAction → SemanticAction
put in0 v a = record { kind = a.kind; number = a.number; inputs = set a.inputs 0 v; output = a.output }
put in1 v a = record { kind = a.kind; number = a.number; inputs = set a.inputs 1 v; output = a.output }
put out v a = record { kind = a.kind; number = a.number; inputs = a.inputs; output = some v }

-- The temporaries, the errors recorded, each with its statement's ordinal, and the ordinal of the statement begun last.
pub record Sizing : Type 0 where
  pub begun : Option ℕ
  pub temporaries : List Temporary
  pub errors : List (Option ℕ)

abbrev pub Sizer : Type 0 → Type 0
Sizer A = Sizing → A × Sizing

infixl 2 ◌>>=◌
abbrev pub ◌>>=◌ : {A B : Type 0} → Sizer A → (A → Sizer B) → Sizer B
◌>>=◌ m f s = let (a, t) = m s in f a t

abbrev pub pure : {A : Type 0} → A → Sizer A
pure a s = (a, s)

abbrev pub with_temporaries : List Temporary → Sizing → Sizing
with_temporaries ts s = record { begun = s.begun; temporaries = ts; errors = s.errors }

abbrev pub error : Sizing → Sizing
error s = record { begun = s.begun; temporaries = s.temporaries; errors = s.errors ++ (s.begun ∷ []) }

module _ (sec : Section) where
  -- the default space's, else 8
  unfoldable pub pointer_size : ℕ
  pointer_size =
      or_else 8 (and_then sec.header.default_space λ i.
      and_then (get_elem? sec.spaces i) λ (x : Space). some x.address_size)

  unfoldable pub export_size_of : ℕ → Option ℕ
  export_size_of n =
      and_then (get_elem? sec.subtables n) λ (x : Subtable).
      and_then (get_elem? sec.tables x.table) λ (t : Table). t.export_size

  unfoldable pub size_of_local : List Temporary → Kind → ℕ → Option ℕ
  size_of_local ts Kind.InstStart n = none
  size_of_local ts Kind.InstNext n = none
  size_of_local ts Kind.Register n = and_then (get_elem? sec.registers n) λ (x : Register). some x.size
  size_of_local ts Kind.Field n = and_then (get_elem? sec.fields n) λ (x : Field). x.size
  size_of_local ts Kind.Subtable n = export_size_of n
  size_of_local ts Kind.SubtableRef n = export_size_of n
  size_of_local ts Kind.PcodeTmp n = and_then (get_elem? ts n) λ (x : Temporary). x.size
  size_of_local ts Kind.Constant n = none

  -- the known size: its own, else that of its register, table export, field or temporary
  unfoldable pub size_of : List Temporary → Value → Option ℕ
  size_of ts v = v.size or size_of_local ts v.kind v.number

  -- the fallback: pointer size for InstStart, InstNext, a constant or a field
  unfoldable pub fallback_size : Value → Option ℕ
  fallback_size v =
      when is_kind Kind.InstStart v || is_kind Kind.InstNext v || is_kind Kind.Constant v || is_kind Kind.Field v
      then some pointer_size else none

  unfoldable pub set_tmp_size : ℕ → Option Temporary → ℕ → Sizing → Sizing
  set_tmp_size i (some t) n s = with_temporaries (set s.temporaries i (record { name = t.name; size = some n })) s
  set_tmp_size i none n s = s

  -- an unknown size on a temporary sizes it everywhere
  unfoldable pub size_temporary : ℕ → Value → Sizing → Sizing
  size_temporary n v s =
      when is_kind Kind.PcodeTmp v then set_tmp_size v.number (get_elem? s.temporaries v.number) n s else s

  -- a different known size is an error, but for a subtable
  unfoldable pub settled : Option ℕ → ℕ → Value → Sizing → Sizing
  settled none n v s = size_temporary n v s
  settled (some known) n v s = when eqb known n || is_kind Kind.Subtable v then s else error s

  -- in every case the operand has the size afterwards
  unfoldable pub set_size : ℕ → Value → Sizer Value
  set_size n v s = (truncate n v, settled (size_of s.temporaries v) n v s)

  unfoldable pub set_given : ℕ → Operand → Option Value → SemanticAction → Sizer SemanticAction
  set_given n p none a = pure a
  set_given n p (some v) a = do
    w ← set_size n v
    pure (put p w a)

  unfoldable pub set_operand : ℕ → Operand → SemanticAction → Sizer SemanticAction
  set_operand n p a = set_given n p (at p a) a

  unfoldable pub set_operands : ℕ → List Operand → SemanticAction → Sizer SemanticAction
  set_operands n [] a = pure a
  set_operands n (p ∷ ps) a = do
    b ← set_operand n p a
    set_operands n ps b

  abbrev pub known_at : SemanticAction → Sizing → Operand → Option ℕ
  known_at a s p = and_then (at p a) (size_of s.temporaries)

  -- The first known operand wins: unless all have its size, the others are set to it. With none known all are set to
  -- the fallback, where there is one.
  unfoldable pub share_size : Option ℕ → Option ℕ → List Operand → SemanticAction → Sizer SemanticAction
  share_size (some n) fallback ps a s =
      when all (λ p. contains n (known_at a s p)) ps then (a, s)
      else set_operands n (but_first (λ p. is_some (known_at a s p)) ps) a s
  share_size none (some n) ps a s = set_operands n ps a s
  share_size none none ps a s = (a, s)

  -- `set_size_of_pair` and `set_size_of_triple`
  unfoldable pub set_size_of_all : Bool → List Operand → SemanticAction → Sizer SemanticAction
  set_size_of_all use_fallback ps a s =
      share_size (first (known_at a s) ps)
      (when use_fallback then first (λ p. and_then (at p a) fallback_size) ps else none) ps a s

  unfoldable pub set_unsized : Option ℕ → ℕ → Operand → SemanticAction → Sizer SemanticAction
  set_unsized (some known) n p a = pure a
  set_unsized none n p a = set_operand n p a

  unfoldable pub apply_step : Bool → Step → SemanticAction → Sizer SemanticAction
  apply_step use_fallback (equal ps) a s = set_size_of_all use_fallback ps a s
  apply_step use_fallback (exactly p z) a s = set_operand (fixed_size pointer_size z) p a s
  apply_step use_fallback (by_default p z) a s = set_unsized (known_at a s p) (fixed_size pointer_size z) p a s

  unfoldable pub apply_steps : Bool → List Step → SemanticAction → Sizer SemanticAction
  apply_steps use_fallback [] a = pure a
  apply_steps use_fallback (x ∷ xs) a = do
    b ← apply_step use_fallback x a
    apply_steps use_fallback xs b

  -- the operation's rule; other actions are not sized here
  unfoldable pub update_operand_sizes : Bool → SemanticAction → Sizer SemanticAction
  update_operand_sizes use_fallback a = apply_steps use_fallback (steps_of (operation_of a.kind)) a

  -- The passes: backward over the list, then forward with fallback.

  unfoldable pub backward_pass : List SemanticAction → Sizer (List SemanticAction)
  backward_pass [] = pure []
  backward_pass (a ∷ rest) = do
    bs ← backward_pass rest
    b ← update_operand_sizes false a
    pure (b ∷ bs)

  unfoldable pub forward_pass : List SemanticAction → Sizer (List SemanticAction)
  forward_pass [] = pure []
  forward_pass (a ∷ rest) = do
    b ← update_operand_sizes true a
    bs ← forward_pass rest
    pure (b ∷ bs)

  unfoldable pub apply_size_inference : List SemanticAction → Sizer (List SemanticAction)
  apply_size_inference actions = do
    back ← backward_pass actions
    forward_pass back

  -- At the end: the known size, else the fallback, else an error.

  unfoldable pub fix_to : Value → Option ℕ → Sizer Value
  fix_to v (some n) s = (truncate n v, s)
  fix_to v none s = (v, error s)

  unfoldable pub fix_size : Value → Sizer Value
  fix_size v s = fix_to v (size_of s.temporaries v or fallback_size v) s

  unfoldable pub fix_inputs : List Value → Sizer (List Value)
  fix_inputs [] = pure []
  fix_inputs (v ∷ vs) = do
    w ← fix_size v
    ws ← fix_inputs vs
    pure (w ∷ ws)

  unfoldable pub fix_output : Option Value → Sizer (Option Value)
  fix_output none = pure none
  fix_output (some v) = do
    w ← fix_size v
    pure (some w)

  unfoldable pub fix_operands : SemanticAction → Sizer SemanticAction
  fix_operands a = do
    inputs ← fix_inputs a.inputs
    output ← fix_output a.output
    pure (record { kind = a.kind; number = a.number; inputs = inputs; output = output })
