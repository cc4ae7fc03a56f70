pub mod Grid
pub mod Nearest
pub mod Slots
pub mod Symbols
pub mod Inner
