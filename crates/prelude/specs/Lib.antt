-- A test that chooses, a few functions on options and lists.
pub mod Base
