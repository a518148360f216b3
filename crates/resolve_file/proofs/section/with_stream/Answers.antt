use mathlib.Core.Path.{refl}
use Rattle.resolve_file.specs.Sections.{read_table}
use Rattle.resolve_file.proofs.section.with_stream.Goals as goal

pub returns-clause-given : goal.returns-clause-given
unfolding read_table
returns-clause-given g c = (_, refl, c.in_ok-read_stream.ensures, c.step.ensures)
