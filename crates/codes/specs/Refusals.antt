-- The numbers that the answer gives to refusals.
use Rattle.std.specs.Prelude.{ℕ, Option, Result, Ok, Err, List, [], ◌∷◌, eqb}
use Rattle.std.specs.List.{find}
use Rattle.codes.specs.declared.refusal.Refusal.{Refusal}

abbrev pub number : Refusal → ℕ
number Refusal.BadLength = 1
number Refusal.BlockCheck = 2
number Refusal.Malformed = 3
number Refusal.OutsideLimit = 4
number Refusal.NamesNothing = 5
number Refusal.SpelledTwice = 6
number Refusal.TooManyStatements = 10
number Refusal.MacroTooDeep = 11
number Refusal.ListFull = 12
number Refusal.TooManyTemporaries = 13
number Refusal.TooManyLabels = 14
number Refusal.AfterExport = 20
number Refusal.Redeclared = 21
number Refusal.Undefined = 22
number Refusal.WrongKind = 23
number Refusal.AbsentTable = 24
number Refusal.DelaySlotArgument = 25
number Refusal.MacroArguments = 26
number Refusal.LabelTwice = 27
number Refusal.StoreToNoAddress = 28
number Refusal.JumpToNonLocal = 29
number Refusal.AddressOfNonLocal = 30
number Refusal.AddressOfOffset = 31
number Refusal.ConstantPool = 32
number Refusal.ArgumentCount = 33
number Refusal.MacroInExpression = 34
number Refusal.SubpieceArgument = 35
number Refusal.SlicePastEnd = 36
number Refusal.NotAssignable = 37
number Refusal.ConstSpace = 38
number Refusal.NoDefaultSpace = 39
number Refusal.OtherSpace = 40
number Refusal.ShiftTooFar = 41
number Refusal.OffsetTooFar = 42
number Refusal.SubpieceSize = 50
number Refusal.ErrorsRecorded = 51

-- the number of a refusal, 0 where there is none
abbrev pub number_or_zero : {A : Type 0} → Result A Refusal → ℕ
number_or_zero (Ok x) = 0
number_or_zero (Err refusal) = number refusal

-- all refusals, in the order of their numbers
unfoldable pub refusals : List Refusal
refusals =
    Refusal.BadLength ∷ Refusal.BlockCheck ∷ Refusal.Malformed ∷ Refusal.OutsideLimit ∷ Refusal.NamesNothing ∷
    Refusal.SpelledTwice ∷ Refusal.TooManyStatements ∷ Refusal.MacroTooDeep ∷ Refusal.ListFull ∷
    Refusal.TooManyTemporaries ∷ Refusal.TooManyLabels ∷ Refusal.AfterExport ∷ Refusal.Redeclared ∷
    Refusal.Undefined ∷ Refusal.WrongKind ∷ Refusal.AbsentTable ∷ Refusal.DelaySlotArgument ∷ Refusal.MacroArguments ∷
    Refusal.LabelTwice ∷ Refusal.StoreToNoAddress ∷ Refusal.JumpToNonLocal ∷ Refusal.AddressOfNonLocal ∷
    Refusal.AddressOfOffset ∷ Refusal.ConstantPool ∷ Refusal.ArgumentCount ∷ Refusal.MacroInExpression ∷
    Refusal.SubpieceArgument ∷ Refusal.SlicePastEnd ∷ Refusal.NotAssignable ∷ Refusal.ConstSpace ∷
    Refusal.NoDefaultSpace ∷ Refusal.OtherSpace ∷ Refusal.ShiftTooFar ∷ Refusal.OffsetTooFar ∷ Refusal.SubpieceSize ∷
    Refusal.ErrorsRecorded ∷ []

-- the first of some refusals that has the number
abbrev pub among : List Refusal → ℕ → Option Refusal
among some n = find (λ refusal. eqb (number refusal) n) some

-- the refusal that has the number, if one has it
unfoldable pub numbered : ℕ → Option Refusal
numbered n = among refusals n
