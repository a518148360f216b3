use mathlib.Core.Path.{◌≡◌, ◌∙◌}
use Rattle.resolve_counts.specs.Counts.{counts}
use Rattle.resolve_counts.proofs.Laws.{by_refusal}
use Rattle.resolve_counts.proofs.section_counts.Goals as goal

pub returns-in-Err : goal.returns-in-Err
returns-in-Err c =
    let none : counts c.default.result.subtables c.default.result.pointer ≡ counts 0 0 = rw (c.default.ensures.0, c.default.ensures.1) in
    none ∙ by_refusal _ c.in-Err.field-0 c.in-Err.ensures.refused.0
