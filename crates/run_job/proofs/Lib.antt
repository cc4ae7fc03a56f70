pub mod Rows
pub mod Ending
pub mod Recovery
pub mod Sound
