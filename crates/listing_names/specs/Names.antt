-- The spelling of a name, and those of the entries' names; `Theorem` has that they are the section's.
use Rattle.std.specs.Prelude.{ℕ, ◌*◌, ◌%◌, List, get_or}
use Rattle.access.specs.Le.{le16}
use Rattle.list_values.specs.Sizes.{entry}
use Rattle.file_refinement.specs.Holds.{spelled_at}
use Rattle.listing_names.specs.declared.names.Symbol.{Symbol}

abbrev pub name_of : List ℕ → List ℕ → ℕ → List ℕ
name_of s t n = spelled_at s (get_or t n 0)

-- so many bytes into list k
abbrev pub name_in : List ℕ → List ℕ → ℕ → ℕ → List ℕ
name_in s t k bytes = name_of s t (le16 s (entry t k bytes))

abbrev pub register_name : List ℕ → List ℕ → ℕ → List ℕ
register_name s t i = name_in s t 1 (i % 65536 * 4)

abbrev pub user_op_name : List ℕ → List ℕ → ℕ → List ℕ
user_op_name s t i = name_in s t 4 (i % 65536 * 2)

abbrev pub field_name : List ℕ → List ℕ → ℕ → List ℕ
field_name s t i = name_in s t 7 (i % 65536 * 4)

abbrev pub subtable_name : List ℕ → List ℕ → ℕ → List ℕ
subtable_name s t i = name_in s t 8 (i % 65536 * 4)

abbrev pub symbol_name : List ℕ → List ℕ → Symbol → ℕ → List ℕ
symbol_name s t Symbol.Register i = register_name s t i
symbol_name s t Symbol.UserOp i = user_op_name s t i
symbol_name s t Symbol.Field i = field_name s t i
symbol_name s t Symbol.Subtable i = subtable_name s t i
