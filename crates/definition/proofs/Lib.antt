-- The openers, which other crates' proofs use too; what is proved of the definition itself.
pub mod Openers
pub mod EveryOperation
mod Sentences
mod RightLists
mod StarredSections
mod UnstarredSections
