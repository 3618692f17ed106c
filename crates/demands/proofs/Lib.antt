-- The claims hold.
pub mod Points
pub mod Words
pub mod Marks
pub mod Refusals
pub mod ReadBack
pub mod PassingExactly
pub mod PassingEncoded
pub mod PassingHeard
pub mod PassingSays
pub mod PassingRecord
pub mod PassingDamage
pub mod Passing
pub mod Printed
pub mod OneAnswer
