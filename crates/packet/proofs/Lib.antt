pub mod Parity
pub mod TenBits
pub mod Passed
pub mod Unique
