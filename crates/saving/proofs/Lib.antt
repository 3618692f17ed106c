-- The laws of the floor `saving`.
pub mod Saves
pub mod Reached
pub mod SavedBack
