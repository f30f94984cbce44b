pub mod Xor
pub mod Steps
pub mod Tested
pub mod Bytewise
pub mod Passed
pub mod Written
pub mod Unique
