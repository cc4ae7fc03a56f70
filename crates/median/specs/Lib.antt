pub mod Median
pub mod Inner
pub mod Same
