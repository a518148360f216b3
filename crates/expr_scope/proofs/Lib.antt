pub mod ScopeLaws
pub mod SmallLaws
