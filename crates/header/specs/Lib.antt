pub mod Coefficient
pub mod Writing
pub mod Reading
pub mod Count
pub mod Inner
