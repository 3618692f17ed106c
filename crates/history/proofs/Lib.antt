-- The laws of the floor `history`.
pub mod Growing
pub mod Places
pub mod Counts
pub mod Relation
pub mod Locking
pub mod Following
pub mod Agrees
pub mod Feeding
pub mod Pairs
pub mod Streams
pub mod Answered
pub mod Example
