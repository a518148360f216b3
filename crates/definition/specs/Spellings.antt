-- The 22 spellings of `translate_inbuilt_func`, with the operation and the count of arguments of each.
use Rattle.std.specs.Prelude.{ℕ, List, [], ◌∷◌}
use Prim.Native.Char.{code}
use Prim.Native.String.{String, [] as end, ◌∷◌ as ◌then◌}
use Rattle.std.proofs.Math.Option.{Option, none, some}
use Rattle.prelude.specs.Base.{when◌then◌else◌, first, same_numbers}
use Rattle.definition.specs.Operations.{Operation}

unfoldable pub bytes_of : String → List ℕ
bytes_of end = []
bytes_of (◌then◌ c s) = code c ∷ bytes_of s

pub record Inbuilt : Type 0 where
  pub spelling : List ℕ
  pub op : Operation
  pub arguments : ℕ

unfoldable pub inbuilt : String → Operation → ℕ → Inbuilt
inbuilt text op n = record { spelling = bytes_of text; op = op; arguments = n }

unfoldable pub inbuilts : List Inbuilt
inbuilts =
    inbuilt "!" Operation.BoolNot 1
    ∷ inbuilt "~" Operation.IntNot 1
    ∷ inbuilt "-" Operation.IntNegate 1
    ∷ inbuilt "nan" Operation.FloatIsNan 1
    ∷ inbuilt "carry" Operation.IntCarry 2
    ∷ inbuilt "scarry" Operation.IntSignedCarry 2
    ∷ inbuilt "sborrow" Operation.IntSignedBorrow 2
    ∷ inbuilt "zext" Operation.ZeroExtend 1
    ∷ inbuilt "zxt" Operation.ZeroExtend 1
    ∷ inbuilt "sext" Operation.SignExtend 1
    ∷ inbuilt "f-" Operation.FloatNegate 1
    ∷ inbuilt "abs" Operation.FloatAbs 1
    ∷ inbuilt "sqrt" Operation.FloatSqrt 1
    ∷ inbuilt "ceil" Operation.FloatCeil 1
    ∷ inbuilt "floor" Operation.FloatFloor 1
    ∷ inbuilt "round" Operation.FloatRound 1
    ∷ inbuilt "trunc" Operation.FloatToInt 1
    ∷ inbuilt "int2float" Operation.IntToFloat 1
    ∷ inbuilt "uint2float" Operation.UintToFloat 1
    ∷ inbuilt "float2float" Operation.FloatToFloat 1
    ∷ inbuilt "popcount" Operation.IntCountOnes 1
    ∷ inbuilt "lzcount" Operation.IntCountLeadingZeroes 1
    ∷ []

unfoldable pub translate_inbuilt_func : List ℕ → Option Inbuilt
translate_inbuilt_func name = first (λ (x : Inbuilt). when same_numbers name x.spelling then some x else none) inbuilts
