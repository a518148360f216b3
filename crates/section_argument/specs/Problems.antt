-- A problem that is none of the call's or the file's, nor of the output.
use Rattle.std.specs.Prelude.{◌≡◌}
use Rattle.std.specs.IoError.{error_kind}
use Rattle.std.specs.declared.io.ErrorKind.{ErrorKind}
use Rattle.section_argument.specs.declared.Problem.{Problem}

-- memory ran out
abbrev pub IsOutOfMemory : Problem → Type 0
IsOutOfMemory (Problem.Failed e) = error_kind e ≡ ErrorKind.OutOfMemory
IsOutOfMemory p = ⊥
