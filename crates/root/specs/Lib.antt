pub mod Root
pub mod Inner
