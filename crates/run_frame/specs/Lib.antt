pub mod Frame
pub mod Recovery
pub mod Priors
pub mod Inner
