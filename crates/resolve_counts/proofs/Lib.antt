pub mod Theorem
mod Laws
