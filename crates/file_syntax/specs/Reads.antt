-- The cursor of the words that stands for what a reader takes, and for what it gives, and what a reading is refused by.
use Rattle.std.specs.Prelude.{ℕ, ◌≡◌, Result, Ok, Err, unwrap_or}
use Rattle.std.specs.Int.NonZero.{non_zero_u64_get}
use Rattle.codes.specs.declared.refusal.Refusal.{Refusal}
use Rattle.codes.specs.Refusals.{number, numbered}
use Rattle.file_syntax.specs.declared.cursor.Cursor as places
use Rattle.file_syntax.specs.declared.cursor.Refused.{Refused}
use Rattle.file_syntax.specs.Cursors.{Cursor, cursor}

-- a cursor that is not refused
abbrev pub good : places.Cursor → Cursor
good c = cursor c.at 0 c.val

-- what a reader takes or gives: each cursor of the words is one of these
abbrev pub to_cursor : Result places.Cursor Refused → Cursor
to_cursor (Ok c) = good c
to_cursor (Err e) = cursor e.at (non_zero_u64_get e.refusal) e.val

-- not refused, or so that P holds of the refusal's number and of the number read last
abbrev pub RefusedBy : (ℕ → ℕ → Type 0) → Cursor → Type 0
RefusedBy P c = (c.bad ≡ 0 → ⊥) → P c.bad c.val

-- the refusal that a number names; one that names none is taken for a malformed file
abbrev pub refusal_named : ℕ → Refusal
refusal_named n = unwrap_or (numbered n) Refusal.Malformed

-- the number of a refusal, and 0 read last
abbrev pub OfRefusal : ℕ → ℕ → Type 0
OfRefusal n v = (number (refusal_named n) ≡ n) × (v ≡ 0)
