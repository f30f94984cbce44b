pub mod Fingerprints
pub mod Session
pub mod Packing
