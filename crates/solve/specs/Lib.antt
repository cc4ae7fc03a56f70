pub mod Elimination
pub mod Solution
