pub mod Sums
pub mod Types
pub mod Refusals
pub mod Accepted
pub mod SameSamples
pub mod NoSamples
pub mod OfType
