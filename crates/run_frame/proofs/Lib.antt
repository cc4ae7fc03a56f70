pub mod Accepted
pub mod Answers
pub mod Plain
pub mod Recovery
pub mod Sound
pub mod Worked
pub mod InRange
