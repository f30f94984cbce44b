pub mod Fields
pub mod Parts
pub mod Mending
pub mod Report
pub mod Places
