pub mod Words
pub mod Outcome
pub mod Demand3
pub mod Done
