-- The laws of the floor `bits`: of the number that bits spell, and of bytes.
pub mod Order
pub mod Computed
pub mod Xor
pub mod Spelling
pub mod ByteBits
pub mod Flags
