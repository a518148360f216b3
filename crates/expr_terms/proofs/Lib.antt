pub mod SliceLaws
pub mod CallLaws
