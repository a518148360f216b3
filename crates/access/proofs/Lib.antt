pub mod LoopLaws
mod Laws
