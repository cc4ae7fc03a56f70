pub mod Sum
pub mod Stored
pub mod Ended
pub mod Laid
pub mod Bounded
