-- What the floor `blocks` means: the division, the block, and what damage is.
pub mod Divide
pub mod Block
pub mod Answers
pub mod Damage
