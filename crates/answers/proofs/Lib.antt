-- The laws of the floor `answers`.
pub mod Lines
pub mod Encodings
pub mod Enough
