pub mod Transport
pub mod Seal
pub mod There
pub mod Back
pub mod Changed
pub mod Figures
