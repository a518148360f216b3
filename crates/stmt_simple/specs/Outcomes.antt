-- What a call statement calls, as the words have it: what it is, or the number of a refusal.
use Rattle.std.specs.Prelude.{ℕ, Result, Ok, Err}
use Rattle.codes.specs.declared.refusal.Refusal.{Refusal}
use Rattle.codes.specs.Refusals.{number}
use Rattle.stmt_simple.specs.declared.calls.Called as called

pub data Called : Type 0 where
  DelaySlot : Called
  UserOp : ℕ → Called
  Macro : ℕ → Called
  No : ℕ → Called

abbrev pub to_called : Result called.Called Refusal → Called
to_called (Ok called.Called.DelaySlot) = Called.DelaySlot
to_called (Ok (called.Called.UserOp id)) = Called.UserOp id
to_called (Ok (called.Called.Macro id)) = Called.Macro id
to_called (Err refusal) = Called.No (number refusal)
