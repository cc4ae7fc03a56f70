pub mod Kept
pub mod AnyOrder
