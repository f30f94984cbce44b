pub mod Rates
pub mod Cadence
pub mod Mixes
