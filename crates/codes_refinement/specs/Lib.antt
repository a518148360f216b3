-- The lists of the definition's things that have numbers.
pub mod Lists
