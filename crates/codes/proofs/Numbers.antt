-- No refusal has the number 0, which stands for none, and of its number each is found again.
use Rattle.std.proofs.Common.{◌<◌, ◌≡◌, arith, Some, refl}
use Rattle.codes.specs.declared.refusal.Refusal.{Refusal}
use Rattle.codes.specs.Refusals.{number, numbered, refusals}

pub number-positive : (refusal : Refusal) → 0 < number refusal
number-positive Refusal.BadLength = omega arith
number-positive Refusal.BlockCheck = omega arith
number-positive Refusal.Malformed = omega arith
number-positive Refusal.OutsideLimit = omega arith
number-positive Refusal.NamesNothing = omega arith
number-positive Refusal.SpelledTwice = omega arith
number-positive Refusal.TooManyStatements = omega arith
number-positive Refusal.MacroTooDeep = omega arith
number-positive Refusal.ListFull = omega arith
number-positive Refusal.TooManyTemporaries = omega arith
number-positive Refusal.TooManyLabels = omega arith
number-positive Refusal.AfterExport = omega arith
number-positive Refusal.Redeclared = omega arith
number-positive Refusal.Undefined = omega arith
number-positive Refusal.WrongKind = omega arith
number-positive Refusal.AbsentTable = omega arith
number-positive Refusal.DelaySlotArgument = omega arith
number-positive Refusal.MacroArguments = omega arith
number-positive Refusal.LabelTwice = omega arith
number-positive Refusal.StoreToNoAddress = omega arith
number-positive Refusal.JumpToNonLocal = omega arith
number-positive Refusal.AddressOfNonLocal = omega arith
number-positive Refusal.AddressOfOffset = omega arith
number-positive Refusal.ConstantPool = omega arith
number-positive Refusal.ArgumentCount = omega arith
number-positive Refusal.MacroInExpression = omega arith
number-positive Refusal.SubpieceArgument = omega arith
number-positive Refusal.SlicePastEnd = omega arith
number-positive Refusal.NotAssignable = omega arith
number-positive Refusal.ConstSpace = omega arith
number-positive Refusal.NoDefaultSpace = omega arith
number-positive Refusal.OtherSpace = omega arith
number-positive Refusal.ShiftTooFar = omega arith
number-positive Refusal.OffsetTooFar = omega arith
number-positive Refusal.SubpieceSize = omega arith
number-positive Refusal.ErrorsRecorded = omega arith

pub number-nonzero : (refusal : Refusal) → number refusal ≡ 0 → ⊥
number-nonzero refusal h = let p = number-positive refusal in omega arith

pub numbered-number : (refusal : Refusal) → numbered (number refusal) ≡ Some refusal
unfolding numbered refusals
numbered-number Refusal.BadLength = refl
numbered-number Refusal.BlockCheck = refl
numbered-number Refusal.Malformed = refl
numbered-number Refusal.OutsideLimit = refl
numbered-number Refusal.NamesNothing = refl
numbered-number Refusal.SpelledTwice = refl
numbered-number Refusal.TooManyStatements = refl
numbered-number Refusal.MacroTooDeep = refl
numbered-number Refusal.ListFull = refl
numbered-number Refusal.TooManyTemporaries = refl
numbered-number Refusal.TooManyLabels = refl
numbered-number Refusal.AfterExport = refl
numbered-number Refusal.Redeclared = refl
numbered-number Refusal.Undefined = refl
numbered-number Refusal.WrongKind = refl
numbered-number Refusal.AbsentTable = refl
numbered-number Refusal.DelaySlotArgument = refl
numbered-number Refusal.MacroArguments = refl
numbered-number Refusal.LabelTwice = refl
numbered-number Refusal.StoreToNoAddress = refl
numbered-number Refusal.JumpToNonLocal = refl
numbered-number Refusal.AddressOfNonLocal = refl
numbered-number Refusal.AddressOfOffset = refl
numbered-number Refusal.ConstantPool = refl
numbered-number Refusal.ArgumentCount = refl
numbered-number Refusal.MacroInExpression = refl
numbered-number Refusal.SubpieceArgument = refl
numbered-number Refusal.SlicePastEnd = refl
numbered-number Refusal.NotAssignable = refl
numbered-number Refusal.ConstSpace = refl
numbered-number Refusal.NoDefaultSpace = refl
numbered-number Refusal.OtherSpace = refl
numbered-number Refusal.ShiftTooFar = refl
numbered-number Refusal.OffsetTooFar = refl
numbered-number Refusal.SubpieceSize = refl
numbered-number Refusal.ErrorsRecorded = refl
