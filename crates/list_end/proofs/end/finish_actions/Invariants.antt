use Rattle.std.proofs.Common.{◌≡◌, ◌-◌, length}
use Rattle.list_end.specs.End.{finish_from, finish_actions}
use Rattle.list_end.proofs.end.finish_actions.Given as goal

abbrev pub invariant-loop-i : goal.invariant-loop-i
invariant-loop-i l = (length l.actions ≡ length l.initial.actions) × (finish_from (l.span.count - l.i) l.i l.sources.section.stream.now l.sources.section.table.now l.actions l.temporaries l.span.base l.sources.pointer l.sizing ≡ finish_actions l.sources.section.stream.now l.sources.section.table.now l.initial.actions l.temporaries l.span.base l.span.count l.sources.pointer l.initial.sizing)

abbrev pub decreases-loop-i : goal.decreases-loop-i
decreases-loop-i l = l.span.count - l.i
