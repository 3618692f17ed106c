-- What is claimed of the library for other languages.
pub mod OneAnswer
