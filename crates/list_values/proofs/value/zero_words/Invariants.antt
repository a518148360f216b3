use Rattle.std.proofs.Common.{◌≡◌, ◌-◌, length}
use Rattle.access.specs.Loops.{run}
use Rattle.list_values.specs.Values.{zero_word, zero_words}
use Rattle.list_values.proofs.value.zero_words.Given as goal

abbrev pub invariant-loop-i : goal.invariant-loop-i
invariant-loop-i l = (length l.list ≡ length l.initial.list) × (run (24 - l.i) l.i (zero_word l.at) l.list ≡ zero_words l.initial.list l.at l.from)

abbrev pub decreases-loop-i : goal.decreases-loop-i
decreases-loop-i l = 24 - l.i
