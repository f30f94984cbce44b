pub mod Packets
pub mod Places
pub mod Judge
pub mod Lines
pub mod Report
