pub mod Identities
pub mod Enough
