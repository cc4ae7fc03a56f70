pub mod Trim
pub mod Inner
