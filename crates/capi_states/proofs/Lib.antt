-- The laws of the crate `capi_states`.
pub mod Buffers
pub mod Rooms
