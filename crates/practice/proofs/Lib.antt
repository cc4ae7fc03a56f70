pub mod Shifts
pub mod Accepted
