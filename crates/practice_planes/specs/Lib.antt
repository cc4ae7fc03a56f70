pub mod Shift
pub mod Belt
pub mod Inner
