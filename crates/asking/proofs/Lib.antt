-- The laws of the floor `asking`.
pub mod Digits
pub mod Calls
pub mod Decimals
