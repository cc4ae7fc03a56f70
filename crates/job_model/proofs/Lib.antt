pub mod Inserted
pub mod FitOfType
pub mod OwnType
pub mod Refusals
pub mod Own
pub mod Electing
pub mod Composed
