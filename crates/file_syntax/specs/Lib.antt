-- The words: for each function of the code, what it computes on the very bytes and positions that it has.
pub mod Cursors
pub mod Reads
pub mod Expressions
pub mod Statements
