pub mod Gaps
pub mod Walks
pub mod Numbers
pub mod Lines
pub mod Sizes
pub mod Unique
