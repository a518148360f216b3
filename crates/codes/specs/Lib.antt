-- The numbers of refusals and of lists.
pub mod Lists
pub mod Refusals
