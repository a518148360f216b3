-- What `file_blocks`, `file_syntax` and `file_section` compute is the definition's: `Holds` says what an accepted stream holds.
pub mod Holds
