-- What must be believed of the reading of files.
pub mod Input
