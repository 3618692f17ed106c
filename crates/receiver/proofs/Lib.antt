-- The laws of the floor `receiver`.
pub mod Refusal
pub mod Ends
pub mod Feeds
pub mod Same
pub mod Quiet
