-- What the floor `bits` means: one file for the number that bits spell, one for bytes.
pub mod Spell
pub mod Bytes
