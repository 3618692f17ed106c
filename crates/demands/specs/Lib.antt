-- What the bench promises, in the demands' words: the P lines; demand 1, each refusal exactly when the table says (When
-- has the rows' conditions); demand 2, read back the same; demand 3, passing; what the
-- programs print; and that there is no second answer.
pub mod Points
pub mod When
pub mod Refusals
pub mod ReadBack
pub mod Passing
pub mod Printed
pub mod OneAnswer
