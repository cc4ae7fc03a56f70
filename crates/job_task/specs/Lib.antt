pub mod Task
pub mod Rows
pub mod Inner
