-- The laws of the floor `telling`.
pub mod Joined
