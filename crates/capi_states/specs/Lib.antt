-- What the bytes of the crate `capi_states` stand for.
pub mod Hearing
pub mod Stations
