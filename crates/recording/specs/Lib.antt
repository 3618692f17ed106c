-- What is heard of a recording, and what is told of it.
pub mod Ear
pub mod Lines
