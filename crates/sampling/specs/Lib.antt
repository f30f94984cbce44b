-- The definitions of line sampling.
pub mod Formats
pub mod Samples
pub mod Window
