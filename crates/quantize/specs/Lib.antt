pub mod Quantize
pub mod OnGrid
pub mod Inner
