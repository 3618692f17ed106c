-- The laws of the key sheet: which exercises a sheet has, what the fields of a key hold, what is wanted, what a good
-- key is, and which answer is given when.
pub mod SheetLaws
pub mod FieldLaws
pub mod WantedLaws
pub mod GoodLaws
pub mod AnswerLaws
