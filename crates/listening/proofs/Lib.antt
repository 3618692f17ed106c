-- The laws of `listening`.
pub mod Turns
