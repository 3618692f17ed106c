-- The laws of the clock.
pub mod Parts
pub mod Ranges
pub mod Table
pub mod Dates
pub mod MarchYears
pub mod Numbers
pub mod RoundTrip
pub mod Points
