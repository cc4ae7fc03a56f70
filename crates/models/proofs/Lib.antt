pub mod Integers
pub mod OnGrid
pub mod Below
