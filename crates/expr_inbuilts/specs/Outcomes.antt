-- A built-in function as the words have it: an operation's number and its count of arguments, both 0 for other names.
use Rattle.std.specs.Prelude.{ℕ, Option, Some, None}
use Rattle.expr_inbuilts.specs.declared.function.Inbuilt as declared

pub record Inbuilt : Type 0 where
  pub op : ℕ
  pub arguments : ℕ

abbrev pub to_inbuilt : Option declared.Inbuilt → Inbuilt
to_inbuilt (Some (declared.Inbuilt.Unary op)) = record { op = op; arguments = 1 }
to_inbuilt (Some (declared.Inbuilt.Binary op)) = record { op = op; arguments = 2 }
to_inbuilt None = record { op = 0; arguments = 0 }
