-- What the clock, its words, its ranges and its dates mean.
pub mod Range
pub mod Words
pub mod Calendar
pub mod Local
