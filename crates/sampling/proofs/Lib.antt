-- The laws of line sampling.
pub mod Table
pub mod Means
pub mod Pairs
pub mod Filled
pub mod Answers
pub mod Unique
