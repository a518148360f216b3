use Rattle.file_section.proofs.ChainLaws.{linked_none}
use Rattle.file_section.proofs.names.names.Goals as goal

pub chained-requires : goal.chained-requires
chained-requires c = (c.requires, linked_none _ _)
