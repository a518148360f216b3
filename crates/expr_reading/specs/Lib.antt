-- The words: for each function of the code, what it computes on the very lists and positions that it has.
pub mod Outcomes
pub mod Reading
