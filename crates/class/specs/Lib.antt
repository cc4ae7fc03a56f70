pub mod Class
pub mod Inner
