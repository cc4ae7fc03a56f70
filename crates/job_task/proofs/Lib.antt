pub mod Groups
pub mod Ready
pub mod Accepted
