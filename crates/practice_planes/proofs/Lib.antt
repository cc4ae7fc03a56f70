pub mod Planes
pub mod Worked
