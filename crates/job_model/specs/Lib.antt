pub mod Assemble
pub mod Modelled
pub mod Inner
