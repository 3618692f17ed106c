-- What the floor `counts` means.
pub mod Counts
