-- What the floor `history` means: what is read off the bits while locked, what is heard with each bit after all that
-- came, and what a stream of valid groups is.
pub mod Locked
pub mod Heard
pub mod Streams
