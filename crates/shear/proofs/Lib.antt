pub mod Accepted
pub mod Codable
