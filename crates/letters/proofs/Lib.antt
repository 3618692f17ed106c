-- The laws of the floor `letters`.
pub mod Buffers
pub mod Digits
pub mod Decimals
pub mod Bytes
pub mod Sizes
pub mod Handing
pub mod Puts
pub mod Exactly
pub mod Spelling
