-- The definition, to be read from the first module to the last. The modules stand in document 01's order (the value,
-- the section file, the scope, the statement rules, the action list, the checker, the premise, the starred sections), but
-- for what others stand on: refusals and operations come first, and sizes before the walk, which applies them at a push.
pub mod Refusals
pub mod Operations
pub mod Value
pub mod Ast
pub mod SectionFile
pub mod Spellings
pub mod Sizes
pub mod Walk
pub mod Scope
pub mod Expressions
pub mod Statements
pub mod End
pub mod ActionList
pub mod Checker
pub mod Right
pub mod Premise
pub mod Passing
pub mod Starred
