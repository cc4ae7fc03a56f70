pub mod Accepted
pub mod Counting
pub mod Frame
pub mod Listed
pub mod Prices
pub mod Rungs
pub mod Worked
