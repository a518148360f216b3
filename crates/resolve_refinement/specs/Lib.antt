-- The answer and the words of a whole call are those of the definition.
pub mod Answers
