pub mod ByClass
pub mod Agree
