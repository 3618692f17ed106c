-- What the crate `station` means.
pub mod Record
pub mod Update
pub mod History
pub mod Whole
