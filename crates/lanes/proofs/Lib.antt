pub mod Going
pub mod Lanes
