-- The numbers of a section file's lists.
use Rattle.std.specs.Prelude.{ℕ}
use Rattle.codes.specs.declared.list.List.{List}

abbrev pub list_number : List → ℕ
list_number List.Spaces = 0
list_number List.Registers = 1
list_number List.BitRanges = 2
list_number List.Tables = 3
list_number List.UserOps = 4
list_number List.Macros = 5
list_number List.Others = 6
list_number List.Fields = 7
list_number List.Subtables = 8
