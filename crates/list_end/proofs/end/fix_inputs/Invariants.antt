use Rattle.std.proofs.Common.{◌≡◌, ◌-◌, length}
use Rattle.access.specs.Loops.{run}
use Rattle.list_values.specs.Base.{listed}
use Rattle.list_end.specs.End.{fix_input, fix_inputs}
use Rattle.list_end.proofs.end.fix_inputs.Given as goal

abbrev pub invariant-loop-i : goal.invariant-loop-i
invariant-loop-i l = (length l.actions ≡ length l.initial.actions) × (run (l.count - l.i) l.i (fix_input l.sources.section.stream.now l.sources.section.table.now l.temporaries l.at l.sources.pointer) (listed l.sizing l.actions) ≡ fix_inputs l.sources.section.stream.now l.sources.section.table.now l.initial.actions l.temporaries l.at l.count l.sources.pointer l.initial.sizing)

abbrev pub decreases-loop-i : goal.decreases-loop-i
decreases-loop-i l = l.count - l.i
