-- The laws of the floor `groups`.
pub mod Headers
pub mod Contents
pub mod Packing
pub mod BlocksInBytes
pub mod RoomLaws
pub mod RoundTrip
