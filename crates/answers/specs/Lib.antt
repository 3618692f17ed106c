-- What the floor `answers` means: the input, the line of `mark`, what `encode` writes, and how much need be read.
pub mod Input
pub mod Line
pub mod Encoded
pub mod Enough
