-- The words: what each function computes on the very lists that it has.
pub mod Counts
