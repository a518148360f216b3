-- The operations' names: those of the field, Ghidra's p-code reference, and of what only the original has. The subpiece,
-- which becomes a COPY and is in no list, has none.
use Rattle.std.specs.Prelude.{ℕ, List, ◌++◌}
use Prim.Native.String.{String}
use Rattle.definition.specs.Operations.{Operation}
use Rattle.definition.specs.Spellings.{bytes_of}
use Rattle.listing_names.specs.Words.{word}

unfoldable pub operation_name : Operation → String
operation_name Operation.IntMul = "INT_MULT"
operation_name Operation.IntDiv = "INT_DIV"
operation_name Operation.IntSignedDiv = "INT_SDIV"
operation_name Operation.IntRem = "INT_REM"
operation_name Operation.IntSignedRem = "INT_SREM"
operation_name Operation.IntAdd = "INT_ADD"
operation_name Operation.IntSub = "INT_SUB"
operation_name Operation.IntLeft = "INT_LEFT"
operation_name Operation.IntRight = "INT_RIGHT"
operation_name Operation.IntSignedRight = "INT_SRIGHT"
operation_name Operation.IntSignedLess = "INT_SLESS"
operation_name Operation.IntSignedLessEqual = "INT_SLESSEQUAL"
operation_name Operation.IntLess = "INT_LESS"
operation_name Operation.IntLessEqual = "INT_LESSEQUAL"
operation_name Operation.IntEqual = "INT_EQUAL"
operation_name Operation.IntNotEqual = "INT_NOTEQUAL"
operation_name Operation.FloatDiv = "FLOAT_DIV"
operation_name Operation.FloatMul = "FLOAT_MULT"
operation_name Operation.FloatAdd = "FLOAT_ADD"
operation_name Operation.FloatSub = "FLOAT_SUB"
operation_name Operation.FloatLess = "FLOAT_LESS"
operation_name Operation.FloatLessEqual = "FLOAT_LESSEQUAL"
operation_name Operation.FloatEqual = "FLOAT_EQUAL"
operation_name Operation.FloatNotEqual = "FLOAT_NOTEQUAL"
operation_name Operation.IntAnd = "INT_AND"
operation_name Operation.IntXor = "INT_XOR"
operation_name Operation.IntOr = "INT_OR"
operation_name Operation.BoolXor = "BOOL_XOR"
operation_name Operation.BoolAnd = "BOOL_AND"
operation_name Operation.BoolOr = "BOOL_OR"
operation_name Operation.IntCarry = "INT_CARRY"
operation_name Operation.IntSignedCarry = "INT_SCARRY"
operation_name Operation.IntSignedBorrow = "INT_SBORROW"
operation_name Operation.BoolNot = "BOOL_NEGATE"
operation_name Operation.IntNot = "INT_NEGATE"
operation_name Operation.IntNegate = "INT_2COMP"
operation_name Operation.FloatIsNan = "FLOAT_NAN"
operation_name Operation.ZeroExtend = "INT_ZEXT"
operation_name Operation.SignExtend = "INT_SEXT"
operation_name Operation.FloatNegate = "FLOAT_NEG"
operation_name Operation.FloatAbs = "FLOAT_ABS"
operation_name Operation.FloatSqrt = "FLOAT_SQRT"
operation_name Operation.FloatCeil = "FLOAT_CEIL"
operation_name Operation.FloatFloor = "FLOAT_FLOOR"
operation_name Operation.FloatRound = "FLOAT_ROUND"
operation_name Operation.FloatToInt = "TRUNC"
operation_name Operation.IntToFloat = "INT2FLOAT"
operation_name Operation.UintToFloat = "UINT2FLOAT"
operation_name Operation.FloatToFloat = "FLOAT2FLOAT"
operation_name Operation.IntCountOnes = "POPCOUNT"
operation_name Operation.IntCountLeadingZeroes = "LZCOUNT"
operation_name Operation.Copy = "COPY"
operation_name Operation.Load = "LOAD"
operation_name Operation.Store = "STORE"
operation_name Operation.Branch = "BRANCH"
operation_name Operation.PcodeBranch = "BRANCH"
operation_name Operation.PcodeLabel = "LABEL"
operation_name Operation.PcodeOp = "CALLOTHER"
operation_name Operation.Arg = "ARG"
operation_name Operation.Invalid = "UNIMPLEMENTED"
operation_name Operation.Subpiece = ""

-- all of them, in the order of their numbers, with dashes for 33 to 38
unfoldable pub operation_names : List ℕ
operation_names =
    bytes_of "INT_MULT INT_DIV INT_SDIV INT_REM INT_SREM INT_ADD INT_SUB INT_LEFT INT_RIGHT INT_SRIGHT "
    ++ bytes_of "INT_SLESS INT_SLESSEQUAL INT_LESS INT_LESSEQUAL INT_EQUAL INT_NOTEQUAL "
    ++ bytes_of "FLOAT_DIV FLOAT_MULT FLOAT_ADD FLOAT_SUB FLOAT_LESS FLOAT_LESSEQUAL FLOAT_EQUAL FLOAT_NOTEQUAL "
    ++ bytes_of "INT_AND INT_XOR INT_OR BOOL_XOR BOOL_AND BOOL_OR INT_CARRY INT_SCARRY INT_SBORROW - - - - - - "
    ++ bytes_of "BOOL_NEGATE INT_NEGATE INT_2COMP FLOAT_NAN INT_ZEXT INT_SEXT FLOAT_NEG FLOAT_ABS FLOAT_SQRT "
    ++ bytes_of "FLOAT_CEIL FLOAT_FLOOR FLOAT_ROUND TRUNC INT2FLOAT UINT2FLOAT FLOAT2FLOAT POPCOUNT LZCOUNT "
    ++ bytes_of "COPY LOAD STORE BRANCH BRANCH LABEL CALLOTHER ARG UNIMPLEMENTED"

unfoldable pub operation_text : ℕ → List ℕ
operation_text op = word op operation_names
