-- The definitions: a value's sample, an instant.
pub mod Values
pub mod Instants
