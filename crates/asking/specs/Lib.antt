-- What the floor `asking` means: the arguments of a program, and how much of an input was read.
pub mod Exercise
pub mod Words
pub mod Reading
