pub mod DivLut
pub mod Nearest
pub mod Passes
pub mod Products
pub mod Reach
pub mod Rounding
