pub mod Rising
pub mod Patterns
pub mod Search
pub mod Counting
pub mod AnyOrder
pub mod PlainLists
pub mod Through
pub mod Worked
