pub mod Plane
pub mod Clamp
pub mod Difference
pub mod Inner
