-- What the floor `groups` means.
pub mod Group
pub mod Header
pub mod Content
pub mod Written
