pub mod Accepted
pub mod Cut
