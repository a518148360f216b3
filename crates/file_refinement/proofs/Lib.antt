-- What `file_blocks`, `file_syntax` and `file_section` compute is the definition's. `FileTheorem` says it of files and streams,
-- `Inversion` what was read at a position; the others hold their lemmas.
pub mod Agree
pub mod AgreeCode
pub mod AgreeNames
pub mod AgreeLists
pub mod Forward
pub mod AgreeEntries
pub mod AgreeStream
pub mod StreamTheorem
pub mod FileTheorem
pub mod Inversion
