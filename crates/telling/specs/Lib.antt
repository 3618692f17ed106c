-- What the floor `telling` means.
pub mod Pieces
pub mod Lines
pub mod Rooms
pub mod Station
pub mod Totals
