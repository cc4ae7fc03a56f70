pub mod Tests
pub mod Samples
