pub mod Le
pub mod Mask
pub mod Loops
