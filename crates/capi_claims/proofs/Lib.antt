-- The claim holds.
pub mod OneAnswer
