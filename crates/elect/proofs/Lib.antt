pub mod Turns
pub mod Mapped
pub mod Held
pub mod OwnModel
pub mod AnyMotion
pub mod Codable
pub mod Answer
