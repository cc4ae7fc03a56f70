pub mod Centring
pub mod Rungs
pub mod Ladder
pub mod Climbing
pub mod Window
pub mod Straight
pub mod Lengths
pub mod Coefficient
