pub mod Lengths
pub mod Accepted
pub mod AsJob
