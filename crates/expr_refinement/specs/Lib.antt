-- How the words of expressions hold what the definition says of them.
pub mod Encoding
