pub mod Word
pub mod Motion
pub mod Storable
