-- The laws that the functions' proofs cite.
pub mod CursorLaws
pub mod RefusedLaws
pub mod CodeLaws
pub mod RangeLaws
