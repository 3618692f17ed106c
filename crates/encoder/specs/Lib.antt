-- What the floor `encoder` means.
pub mod Words
pub mod Encoding
pub mod Answer
