-- The shapes of the actions that the walk makes.
use Prim.Native.Nat.{ℕ, zero, suc, ◌≤◌, ◌<◌}
use mathlib.Core.Path.{◌≡◌, refl, subst}
use mathlib.Core.Bool.{true, false}
use mathlib.Core.List.{List, [], ◌∷◌}
use mathlib.Core.Option.{Option, none, some}
use native.Mathlib.Omega.{arith}
use Rattle.prelude.specs.Base.{or_else, all, same_numbers}
use Rattle.definition.specs.Operations.{Operation}
use Rattle.definition.specs.Value.{Kind, Value, local, ActionKind}
use Rattle.definition.specs.Ast.{PcodeOp}
use Rattle.definition.specs.Spellings.{Inbuilt, inbuilts, translate_inbuilt_func}
use Rattle.definition.specs.SectionFile.{pcode_ops}
use Rattle.definition.specs.Checker.{shapes, shape_of, same_count, counts_fit, option_fits, number_fits, value_fits, plain_base, base_fits}
use Rattle.definition.proofs.Openers.{base_opens, operations_opens, spellings_opens}
use Rattle.definition_guarantee.specs.Limits.{OperatorWithin}
use Rattle.std.proofs.lemmas.Bool.{lt-ltb}
use Rattle.definition_guarantee.proofs.Tests.{all_at, all_cons, first_from, chosen}
use Rattle.definition_guarantee.proofs.Words.{Fits, parts_fit, Laid}
use Rattle.definition_guarantee.proofs.Kept.{applies, Applicable, plain}

-- values

pub local_fits : (t sub : ℕ) (k : Kind) (n : ℕ) → number_fits t sub k n ≡ true → Fits t sub (local k n)
unfolding or_else
local_fits t sub k n h = record { number = h; offset = omega arith; size = omega arith }

pub base-fits : (t sub : ℕ) (v : Value) → Fits t sub v → Fits t sub (local v.kind v.number)
base-fits t sub v f = local_fits t sub v.kind v.number f.number

pub constant-fits : (t sub n : ℕ) (z : Option ℕ) → or_else 0 z < 65535
    → Fits t sub (record { kind = Kind.Constant; number = n; offset = 0; size = z })
unfolding number_fits
constant-fits t sub n z h = record { number = refl; offset = omega arith; size = h }

-- operations with an output

pub copy_applies : Applicable Operation.Copy 0 1
unfolding applies shape_of shapes operations_opens same_count
copy_applies = plain refl

pub right_applies : Applicable Operation.IntRight 0 2
unfolding applies shape_of shapes operations_opens same_count
right_applies = plain refl

pub left_applies : Applicable Operation.IntLeft 0 2
unfolding applies shape_of shapes operations_opens same_count
left_applies = plain refl

pub and_applies : Applicable Operation.IntAnd 0 2
unfolding applies shape_of shapes operations_opens same_count
and_applies = plain refl

pub or_applies : Applicable Operation.IntOr 0 2
unfolding applies shape_of shapes operations_opens same_count
or_applies = plain refl

pub extend_applies : Applicable Operation.ZeroExtend 0 1
unfolding applies shape_of shapes operations_opens same_count
extend_applies = plain refl

pub load_applies : Applicable Operation.Load 0 1
unfolding applies shape_of shapes operations_opens same_count
load_applies = plain refl

pub user_applies : (id c : ℕ) → id < 256 → c ≤ 2 → Applicable Operation.PcodeOp id c
unfolding applies shape_of shapes operations_opens same_count
user_applies id zero h l = plain (lt-ltb id 256 h)
user_applies id (suc zero) h l = plain (lt-ltb id 256 h)
user_applies id (suc (suc zero)) h l = plain (lt-ltb id 256 h)
user_applies id (suc (suc (suc c))) h l = absurd (omega arith)

-- operators

-- the operation that an operator stands for
unfoldable pub operation_in : PcodeOp → Operation
operation_in (PcodeOp.plain operation) = operation
operation_in (PcodeOp.greater operation) = operation

operators_apply : all (λ o. applies true (operation_in o) 0 2) pcode_ops ≡ true
unfolding operation_in pcode_ops applies shape_of shapes operations_opens same_count
operators_apply = refl

pub operator_applies : (o : PcodeOp) → OperatorWithin o → Applicable (operation_in o) 0 2
operator_applies o w = plain (all_at (λ o. applies true (operation_in o) 0 2) pcode_ops w.0 o operators_apply w.1)

-- the built-in spellings

inbuilts_apply : all (λ (x : Inbuilt). applies true x.op 0 x.arguments) inbuilts ≡ true
unfolding applies shape_of shapes operations_opens same_count spellings_opens
inbuilts_apply = refl

pub inbuilt_applies : (name : List ℕ) (f : Inbuilt) → translate_inbuilt_func name ≡ some f → Applicable f.op 0 f.arguments
unfolding translate_inbuilt_func
inbuilt_applies name f e =
    let q = first_from _ inbuilts f e in
    let d : q.1 ≡ f = chosen (same_numbers name q.1.spelling) q.1 f q.3 in
    subst (λ (x : Inbuilt). Applicable x.op 0 x.arguments) d
    (plain (all_at (λ (x : Inbuilt). applies true x.op 0 x.arguments) inbuilts q.0 q.1 inbuilts_apply q.2))

-- operations without an output

pub store_applies : applies false Operation.Store 0 2 ≡ true
unfolding applies shape_of shapes operations_opens same_count
store_applies = refl

pub branch_applies : (n : ℕ) → n < 3 → applies false Operation.Branch n 2 ≡ true
unfolding applies shape_of shapes operations_opens same_count
branch_applies n h = lt-ltb n 3 h

pub goto_applies : (n : ℕ) → n < 256 → applies false Operation.PcodeBranch n 2 ≡ true
unfolding applies shape_of shapes operations_opens same_count
goto_applies n h = lt-ltb n 256 h

pub label_applies : (n : ℕ) → n < 256 → applies false Operation.PcodeLabel n 0 ≡ true
unfolding applies shape_of shapes operations_opens same_count
label_applies n h = lt-ltb n 256 h

pub arg_applies : (n : ℕ) → n < 6 → applies false Operation.Arg n 1 ≡ true
unfolding applies shape_of shapes operations_opens same_count
arg_applies n h = lt-ltb n 6 h

pub invalid_applies : applies false Operation.Invalid 0 0 ≡ true
unfolding applies shape_of shapes operations_opens same_count
invalid_applies = refl

pub call_applies : (id c : ℕ) → id < 256 → c ≤ 8 → applies false Operation.PcodeOp id c ≡ true
unfolding applies shape_of shapes operations_opens same_count
call_applies id zero h l = lt-ltb id 256 h
call_applies id (suc zero) h l = lt-ltb id 256 h
call_applies id (suc (suc zero)) h l = lt-ltb id 256 h
call_applies id (suc (suc (suc zero))) h l = lt-ltb id 256 h
call_applies id (suc (suc (suc (suc zero)))) h l = lt-ltb id 256 h
call_applies id (suc (suc (suc (suc (suc zero))))) h l = lt-ltb id 256 h
call_applies id (suc (suc (suc (suc (suc (suc zero)))))) h l = lt-ltb id 256 h
call_applies id (suc (suc (suc (suc (suc (suc (suc zero))))))) h l = lt-ltb id 256 h
call_applies id (suc (suc (suc (suc (suc (suc (suc (suc zero)))))))) h l = lt-ltb id 256 h
call_applies id (suc (suc (suc (suc (suc (suc (suc (suc (suc c))))))))) h l = absurd (omega arith)

-- the other actions

module _ (t sub : ℕ) where
  pub address_laid : (v o : Value) → Fits t sub v → Fits t sub o
      → Laid t sub (record { kind = ActionKind.AddressOf; number = 0; inputs = local v.kind v.number ∷ []; output = some o })
  unfolding shape_of counts_fit same_count base_opens option_fits base_fits plain_base
  address_laid v o f g = record {
    shaped = record { shape = record { counts = (1, true) ∷ []; below = 1 }; is = refl; counts = refl; number = omega arith };
    inputs = all_cons (value_fits t sub) (local v.kind v.number) [] (parts_fit (base-fits t sub v f)) refl;
    output = parts_fit g;
    base = refl;
  }

  pub load_laid : (n : ℕ) (v o : Value) → n ≤ 1024 → Fits t sub v → Fits t sub o
      → Laid t sub (record { kind = ActionKind.LoadRegister; number = n; inputs = v ∷ []; output = some o })
  unfolding shape_of counts_fit same_count base_opens option_fits base_fits
  load_laid n v o h f g = record {
    shaped = record { shape = record { counts = (1, true) ∷ []; below = 1025 }; is = refl; counts = refl; number = omega arith };
    inputs = all_cons (value_fits t sub) v [] (parts_fit f) refl;
    output = parts_fit g;
    base = refl;
  }

  pub store_laid : (n : ℕ) (v u : Value) → n ≤ 1024 → Fits t sub v → Fits t sub u
      → Laid t sub (record { kind = ActionKind.StoreRegister; number = n; inputs = v ∷ u ∷ []; output = none })
  unfolding shape_of counts_fit same_count base_opens option_fits base_fits
  store_laid n v u h f g = record {
    shaped = record { shape = record { counts = (2, false) ∷ []; below = 1025 }; is = refl; counts = refl; number = omega arith };
    inputs = all_cons (value_fits t sub) v (u ∷ []) (parts_fit f) (all_cons (value_fits t sub) u [] (parts_fit g) refl);
    output = refl;
    base = refl;
  }

  pub delay_laid : Laid t sub (record { kind = ActionKind.DelaySlot; number = 0; inputs = []; output = none })
  unfolding shape_of counts_fit same_count base_opens option_fits base_fits
  delay_laid = record {
    shaped = record {
      shape = record { counts = (0, false) ∷ []; below = 1 };
      is = refl;
      counts = refl;
      number = omega arith;
    };
    inputs = refl;
    output = refl;
    base = refl;
  }
