pub mod SameSamples
