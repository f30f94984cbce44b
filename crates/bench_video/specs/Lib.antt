-- The definitions of the exports for measuring.
pub mod Bench
