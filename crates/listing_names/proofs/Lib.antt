mod Laws
mod Widths
pub mod Put
pub mod Theorem
pub mod OperationNames
