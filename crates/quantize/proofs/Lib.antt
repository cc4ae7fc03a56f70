pub mod Slots
pub mod Leftover
pub mod OppositeSlots
pub mod OnGrid
pub mod NearestSlots
pub mod Accepted
pub mod SameSamples
pub mod Walked
