pub mod Words
pub mod Table
pub mod Matrices
pub mod Refit
