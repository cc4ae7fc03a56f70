pub mod Rows
pub mod Named
pub mod Calls
pub mod AnyOrder
