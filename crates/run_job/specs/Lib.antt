pub mod Store
pub mod Job
pub mod Words
pub mod Recovery
