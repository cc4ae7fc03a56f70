pub mod Bits
pub mod Fields
pub mod Ns
pub mod Inner
