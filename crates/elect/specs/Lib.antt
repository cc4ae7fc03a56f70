pub mod Elect
pub mod Inside
