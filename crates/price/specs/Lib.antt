pub mod Prices
pub mod Listed
pub mod Call
pub mod Frame
pub mod Inner
