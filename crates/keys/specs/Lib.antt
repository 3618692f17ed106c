pub mod Sheet
pub mod Fields
pub mod Wanted
pub mod Good
pub mod Asked
