pub mod Recenter
pub mod Ladder
pub mod Coefficient
pub mod Inner
