pub mod Shear
pub mod Inner
