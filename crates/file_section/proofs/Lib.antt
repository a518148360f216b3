-- The laws that the functions' proofs cite.
mod HeaderLaws
mod NameLaws
mod ChainLaws
mod ListLaws
mod RefusedLaws
mod RangeLaws
mod ZeroLaws
mod AgreeLaws
