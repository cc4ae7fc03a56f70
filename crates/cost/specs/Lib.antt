pub mod Cost
pub mod Ended
pub mod Inner
