pub mod Sums
pub mod Fitted
pub mod Inner
