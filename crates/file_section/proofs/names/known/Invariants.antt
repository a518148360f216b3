use Rattle.file_section.proofs.ChainLaws.{Walk}
use Rattle.file_section.proofs.names.known.Given as goal

abbrev pub invariant-loop-j : goal.invariant-loop-j
invariant-loop-j l = Walk l.stream l.table l.at l.chain l.count l.j

abbrev pub decreases-loop-j : goal.decreases-loop-j
decreases-loop-j l = l.j
