pub mod Rows
pub mod Word
pub mod Ending
pub mod Range
pub mod Words
pub mod Counted
pub mod Bands
