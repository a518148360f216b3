-- The words: for each function of the code, what it computes on the very lists and positions that it has.
pub mod Operations
pub mod Outcomes
pub mod Rules
pub mod RuleNumbers
pub mod Passes
pub mod Pushes
