-- The laws of what is heard of a recording.
pub mod Advances
pub mod Pieces
