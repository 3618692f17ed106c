-- What the floor `saving` means: the receiver's state as bytes, and back.
pub mod Saving
