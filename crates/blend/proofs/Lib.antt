pub mod Weighed
pub mod Blended
