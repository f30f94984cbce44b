pub mod Handed
pub mod Changed
