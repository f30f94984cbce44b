pub mod Faults
pub mod Files
