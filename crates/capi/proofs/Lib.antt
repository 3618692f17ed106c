-- The laws of the crate `capi`.
pub mod Chunks
