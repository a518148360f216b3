-- The words: for each function of the code, what it computes on the very bytes and positions that it has.
pub mod Names
pub mod Chains
pub mod Headers
pub mod Lists
pub mod Stream
