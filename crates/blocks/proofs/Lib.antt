-- The laws of the floor `blocks`.
pub mod Division
pub mod Rows
pub mod Validity
pub mod Reading
pub mod Damaged
