-- The laws of the crate `station`.
pub mod Holding
pub mod Lists
pub mod Runs
pub mod Storing
pub mod Agreement
pub mod Whole
