-- What is computed over a list holds at each place of it; and every operation has its place in the list of operations.
use Prim.Native.Nat.{ℕ, zero, suc, ◌-◌}
use mathlib.Core.Path.{◌≡◌, refl}
use mathlib.Core.List.{List, [], ◌∷◌, map}
use mathlib.Core.Option.{some}
use native.Mathlib.Omega.{arith}
use lib.Dec.{ltb}
use lib.ListN.{get_elem?}
use Rattle.prelude.specs.Base.{when◌then◌else◌}
use Rattle.definition.specs.Operations.{Operation, operation_number, operations}
use Rattle.definition.proofs.Openers.{operations_opens}

-- functions that give the same over a list give the same at each place
pub same_at : {A B : Type 0} (f g : A → B) (xs : List A) (i : ℕ) (x : A) → map f xs ≡ map g xs
    → get_elem? xs i ≡ some x → f x ≡ g x
same_at f g [] i x h e = let z : ◌≡◌ {A = ℕ} 0 1 = cc in absurd (omega arith)
same_at f g (y ∷ ys) zero x h e = let d : y ≡ x = cc in let k : f y ≡ g y = cc in rw (← d) k
same_at f g (y ∷ ys) (suc i) x h e = let k : map f ys ≡ map g ys = cc in same_at f g ys i x k e

-- no operation has the numbers 33 to 38
place : Operation → ℕ
place op = when ltb (operation_number op) 33 then operation_number op else operation_number op - 6

every : (op : Operation) → get_elem? operations (place op) ≡ some op
unfolding place operations_opens
every Operation.IntMul = refl
every Operation.IntDiv = refl
every Operation.IntSignedDiv = refl
every Operation.IntRem = refl
every Operation.IntSignedRem = refl
every Operation.IntAdd = refl
every Operation.IntSub = refl
every Operation.IntLeft = refl
every Operation.IntRight = refl
every Operation.IntSignedRight = refl
every Operation.IntSignedLess = refl
every Operation.IntSignedLessEqual = refl
every Operation.IntLess = refl
every Operation.IntLessEqual = refl
every Operation.IntEqual = refl
every Operation.IntNotEqual = refl
every Operation.FloatDiv = refl
every Operation.FloatMul = refl
every Operation.FloatAdd = refl
every Operation.FloatSub = refl
every Operation.FloatLess = refl
every Operation.FloatLessEqual = refl
every Operation.FloatEqual = refl
every Operation.FloatNotEqual = refl
every Operation.IntAnd = refl
every Operation.IntXor = refl
every Operation.IntOr = refl
every Operation.BoolXor = refl
every Operation.BoolAnd = refl
every Operation.BoolOr = refl
every Operation.IntCarry = refl
every Operation.IntSignedCarry = refl
every Operation.IntSignedBorrow = refl
every Operation.BoolNot = refl
every Operation.IntNot = refl
every Operation.IntNegate = refl
every Operation.FloatIsNan = refl
every Operation.ZeroExtend = refl
every Operation.SignExtend = refl
every Operation.FloatNegate = refl
every Operation.FloatAbs = refl
every Operation.FloatSqrt = refl
every Operation.FloatCeil = refl
every Operation.FloatFloor = refl
every Operation.FloatRound = refl
every Operation.FloatToInt = refl
every Operation.IntToFloat = refl
every Operation.UintToFloat = refl
every Operation.FloatToFloat = refl
every Operation.IntCountOnes = refl
every Operation.IntCountLeadingZeroes = refl
every Operation.Copy = refl
every Operation.Load = refl
every Operation.Store = refl
every Operation.Branch = refl
every Operation.PcodeBranch = refl
every Operation.PcodeLabel = refl
every Operation.PcodeOp = refl
every Operation.Arg = refl
every Operation.Invalid = refl
every Operation.Subpiece = refl

-- functions that give the same over the list of operations give the same for every operation
pub alike : {A : Type 0} (f g : Operation → A) → map f operations ≡ map g operations → (op : Operation) → f op ≡ g op
alike f g h op = same_at f g operations (place op) op h (every op)
