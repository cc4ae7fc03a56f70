pub mod GridNumber
