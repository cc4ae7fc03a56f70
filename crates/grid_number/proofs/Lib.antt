pub mod Doubling
pub mod Rounding
pub mod Held
pub mod Negation
