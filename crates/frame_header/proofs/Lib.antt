pub mod Inter
pub mod Accepted
pub mod RoundTrip
pub mod Intra
pub mod Worked
