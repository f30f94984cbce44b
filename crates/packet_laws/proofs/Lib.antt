pub mod Packet
pub mod There
pub mod Back
