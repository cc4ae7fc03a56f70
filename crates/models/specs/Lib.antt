pub mod Integers
pub mod Models
pub mod Inner
