-- The laws and theorems; a function's own proof stands in the folder of its name.
pub mod Steps
pub mod Taking
pub mod Counts
pub mod Bits
pub mod History
pub mod Answers
pub mod Unique
