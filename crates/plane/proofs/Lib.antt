pub mod Listing
pub mod Halves
pub mod Offsets
pub mod Clamped
pub mod Windows
