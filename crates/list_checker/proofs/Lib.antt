pub mod AgreeValue
pub mod AgreeKind
pub mod AgreeSizes
pub mod AgreeRow
pub mod AgreeList
mod FitLaws
mod SweepLaws
