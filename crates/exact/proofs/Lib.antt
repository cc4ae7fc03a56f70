pub mod Counts
pub mod Terms
pub mod Table
pub mod Matrices
pub mod Fits
pub mod Refit
pub mod Worked
