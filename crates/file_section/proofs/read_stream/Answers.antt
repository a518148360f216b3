use Rattle.file_section.proofs.RangeLaws.{header_refused, stream_refused}
use Rattle.file_section.proofs.read_stream.Goals as goal

pub refusal_of-requires : goal.refusal_of-requires
refusal_of-requires c = header_refused _ _ c.in-Err.refused.refusal _ c.in-Err.ensures

pub refusal_of-requires-in-Err-own_statements : goal.refusal_of-requires-in-Err-own_statements
refusal_of-requires-in-Err-own_statements c =
    stream_refused _ _ _ c.in-Err-own_statements.refused.refusal _ _ _ _ _ _ _ _ c.header-head.ensures c.names-named.ensures c.lists-listed.ensures c.in-Err-own_statements.ensures
