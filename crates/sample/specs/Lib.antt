pub mod Word
pub mod Sample
pub mod Storable
pub mod Inner
