-- What the numbers and bytes of the crate `capi` stand for.
pub mod Blocks
pub mod Groups
pub mod Times
pub mod Frequencies
pub mod Marking
