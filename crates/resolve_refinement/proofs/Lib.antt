-- The answer and the words of a whole call are those of the definition.
pub mod Answers
pub mod Left
pub mod Temporaries
pub mod Labels
pub mod Accepted
pub mod Finish
pub mod BitRanges
pub mod Start
pub mod Sections
pub mod Walking
pub mod Theorem
