-- What the floor `receiver` means: the rules, the answers' numbers, and what one bit makes of any state.
pub mod Rules
pub mod Answers
pub mod Machine
pub mod Feeding
pub mod Strides
