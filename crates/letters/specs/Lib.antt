-- What the floor `letters` means.
pub mod Letters
pub mod Told
