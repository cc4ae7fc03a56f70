pub mod Stage
pub mod Early
pub mod Inner
