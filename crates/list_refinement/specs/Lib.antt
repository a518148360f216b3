-- The words that the code computes are those of the definition.
pub mod Encoding
pub mod RuleKinds
