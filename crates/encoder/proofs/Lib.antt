-- The laws of the floor `encoder`: what the words of an address hold, what an encoding holds, which addresses are sent,
-- which answer is given when, and what the buffer then holds.
pub mod WordLaws
pub mod EncodingLaws
pub mod SentLaws
pub mod SizeLaws
pub mod AnswerLaws
pub mod BufferLaws
pub mod PromiseLaws
