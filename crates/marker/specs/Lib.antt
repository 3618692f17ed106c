-- What the floor `marker` means: the answers, what a submission holds, the tests in the order of the table, the
-- table, and the marking rules as the course states them.
pub mod Verdict
pub mod First
pub mod Submission
pub mod Tests
pub mod Steps
pub mod Mark
pub mod Rules
pub mod Unmarked
