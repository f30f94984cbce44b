pub mod Parts
pub mod Runs
pub mod Passing
pub mod Readable
pub mod Bytes
pub mod Outcome
pub mod Unique
