-- The laws of the reading of files.
pub mod Counting
