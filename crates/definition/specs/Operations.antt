-- OPERATIONS: `pcode::Op` as far as `resolve` makes them, with their numbers in the action list. What an operation
-- holds (a label, a user op, a hint, a subpiece's offset) stands beside it as the action's number.
use Rattle.std.specs.Prelude.{ℕ, Bool, List, [], ◌∷◌, ◌++◌, eqb}
use Rattle.prelude.specs.Base.{any}

pub data Operation : Type 0 where
  -- 0 to 32, the operators
  IntMul IntDiv IntSignedDiv IntRem IntSignedRem IntAdd IntSub IntLeft IntRight IntSignedRight : Operation
  IntSignedLess IntSignedLessEqual IntLess IntLessEqual IntEqual IntNotEqual FloatDiv FloatMul FloatAdd : Operation
  FloatSub FloatLess FloatLessEqual FloatEqual FloatNotEqual IntAnd IntXor IntOr BoolXor BoolAnd BoolOr : Operation
  IntCarry IntSignedCarry IntSignedBorrow : Operation
  -- 39 to 56, the one-input spellings
  BoolNot IntNot IntNegate FloatIsNan ZeroExtend SignExtend FloatNegate FloatAbs FloatSqrt FloatCeil : Operation
  FloatFloor FloatRound FloatToInt IntToFloat UintToFloat FloatToFloat IntCountOnes IntCountLeadingZeroes : Operation
  -- 57 to 65; and 66, the subpiece, while a list is made: a finished list has a Copy in its place
  Copy Load Store Branch PcodeBranch PcodeLabel PcodeOp Arg Invalid Subpiece : Operation

unfoldable pub operation_number : Operation → ℕ
operation_number Operation.IntMul = 0
operation_number Operation.IntDiv = 1
operation_number Operation.IntSignedDiv = 2
operation_number Operation.IntRem = 3
operation_number Operation.IntSignedRem = 4
operation_number Operation.IntAdd = 5
operation_number Operation.IntSub = 6
operation_number Operation.IntLeft = 7
operation_number Operation.IntRight = 8
operation_number Operation.IntSignedRight = 9
operation_number Operation.IntSignedLess = 10
operation_number Operation.IntSignedLessEqual = 11
operation_number Operation.IntLess = 12
operation_number Operation.IntLessEqual = 13
operation_number Operation.IntEqual = 14
operation_number Operation.IntNotEqual = 15
operation_number Operation.FloatDiv = 16
operation_number Operation.FloatMul = 17
operation_number Operation.FloatAdd = 18
operation_number Operation.FloatSub = 19
operation_number Operation.FloatLess = 20
operation_number Operation.FloatLessEqual = 21
operation_number Operation.FloatEqual = 22
operation_number Operation.FloatNotEqual = 23
operation_number Operation.IntAnd = 24
operation_number Operation.IntXor = 25
operation_number Operation.IntOr = 26
operation_number Operation.BoolXor = 27
operation_number Operation.BoolAnd = 28
operation_number Operation.BoolOr = 29
operation_number Operation.IntCarry = 30
operation_number Operation.IntSignedCarry = 31
operation_number Operation.IntSignedBorrow = 32
operation_number Operation.BoolNot = 39
operation_number Operation.IntNot = 40
operation_number Operation.IntNegate = 41
operation_number Operation.FloatIsNan = 42
operation_number Operation.ZeroExtend = 43
operation_number Operation.SignExtend = 44
operation_number Operation.FloatNegate = 45
operation_number Operation.FloatAbs = 46
operation_number Operation.FloatSqrt = 47
operation_number Operation.FloatCeil = 48
operation_number Operation.FloatFloor = 49
operation_number Operation.FloatRound = 50
operation_number Operation.FloatToInt = 51
operation_number Operation.IntToFloat = 52
operation_number Operation.UintToFloat = 53
operation_number Operation.FloatToFloat = 54
operation_number Operation.IntCountOnes = 55
operation_number Operation.IntCountLeadingZeroes = 56
operation_number Operation.Copy = 57
operation_number Operation.Load = 58
operation_number Operation.Store = 59
operation_number Operation.Branch = 60
operation_number Operation.PcodeBranch = 61
operation_number Operation.PcodeLabel = 62
operation_number Operation.PcodeOp = 63
operation_number Operation.Arg = 64
operation_number Operation.Invalid = 65
operation_number Operation.Subpiece = 66

-- 0 to 32
unfoldable pub operators : List Operation
operators =
    Operation.IntMul ∷ Operation.IntDiv ∷ Operation.IntSignedDiv ∷ Operation.IntRem ∷ Operation.IntSignedRem
    ∷ Operation.IntAdd ∷ Operation.IntSub ∷ Operation.IntLeft ∷ Operation.IntRight ∷ Operation.IntSignedRight
    ∷ Operation.IntSignedLess ∷ Operation.IntSignedLessEqual ∷ Operation.IntLess ∷ Operation.IntLessEqual
    ∷ Operation.IntEqual ∷ Operation.IntNotEqual ∷ Operation.FloatDiv ∷ Operation.FloatMul ∷ Operation.FloatAdd
    ∷ Operation.FloatSub ∷ Operation.FloatLess ∷ Operation.FloatLessEqual ∷ Operation.FloatEqual
    ∷ Operation.FloatNotEqual ∷ Operation.IntAnd ∷ Operation.IntXor ∷ Operation.IntOr ∷ Operation.BoolXor
    ∷ Operation.BoolAnd ∷ Operation.BoolOr ∷ Operation.IntCarry ∷ Operation.IntSignedCarry
    ∷ Operation.IntSignedBorrow
    ∷ []

-- 39 to 56
unfoldable pub one_inputs : List Operation
one_inputs =
    Operation.BoolNot ∷ Operation.IntNot ∷ Operation.IntNegate ∷ Operation.FloatIsNan ∷ Operation.ZeroExtend
    ∷ Operation.SignExtend ∷ Operation.FloatNegate ∷ Operation.FloatAbs ∷ Operation.FloatSqrt
    ∷ Operation.FloatCeil ∷ Operation.FloatFloor ∷ Operation.FloatRound ∷ Operation.FloatToInt
    ∷ Operation.IntToFloat ∷ Operation.UintToFloat ∷ Operation.FloatToFloat ∷ Operation.IntCountOnes
    ∷ Operation.IntCountLeadingZeroes
    ∷ []

-- all of them, in the order of their numbers
unfoldable pub operations : List Operation
operations =
    operators ++ one_inputs
    ++ (Operation.Copy ∷ Operation.Load ∷ Operation.Store ∷ Operation.Branch ∷ Operation.PcodeBranch
    ∷ Operation.PcodeLabel ∷ Operation.PcodeOp ∷ Operation.Arg ∷ Operation.Invalid ∷ Operation.Subpiece ∷ [])

abbrev pub is_op : Operation → Operation → Bool
is_op a b = eqb (operation_number a) (operation_number b)

unfoldable pub among : List Operation → Operation → Bool
among group op = any (is_op op) group
