-- What the words of a walk and the definition's state have in common.
pub mod Standing
