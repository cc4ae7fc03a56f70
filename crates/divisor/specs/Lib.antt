pub mod Rounding
pub mod Divisor
pub mod Inner
