-- The words that expressions are resolved to are those of the definition.
pub mod Encodings
pub mod Answers
pub mod Below
pub mod Stated
pub mod Reading
pub mod Slots
pub mod Scopes
pub mod Slices
pub mod Addresses
pub mod Operators
pub mod Inbuilts
pub mod Calls
pub mod Positions
pub mod Expressions
pub mod Pushing
pub mod Resolved
pub mod Start
