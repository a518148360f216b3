pub mod Action
pub mod Sweep
