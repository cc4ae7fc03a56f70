pub mod Search
pub mod Band
pub mod Refusal
pub mod Inner
