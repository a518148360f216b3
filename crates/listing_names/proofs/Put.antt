-- A lemma that docs/PORT.md names: a text written element by element into a list stands in front of what was there.
use Prim.Native.Nat.{ℕ, ◌≤◌}
use mathlib.Core.Path.{◌≡◌, ◌∙◌}
use mathlib.Core.List.{List}
use lib.ListN.{length, take, drop}
use lib.Seq.{take-length}

-- what a list has after so many turns
abbrev pub Put : List ℕ → List ℕ → List ℕ → ℕ → Type 0
Put text out before turns = (length out ≡ length before) × (take turns out ≡ take turns text) × (drop turns out ≡ drop turns before)

pub put-done : (text out before : List ℕ) (turns : ℕ) → turns ≡ length text → length text ≤ length out → Put text out before turns
    → (length text ≤ length out) × (take (length text) out ≡ text) × (drop (length text) out ≡ drop (length text) before)
put-done text out before turns all room (same, front, back) =
    let written : take (length text) out ≡ text = (rw all at front) ∙ take-length text in
    (room, written, rw all at back)
