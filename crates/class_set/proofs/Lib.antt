pub mod Named
pub mod Chosen
pub mod Front
