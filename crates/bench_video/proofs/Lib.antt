-- The laws of the exports for measuring.
pub mod Unique
