-- The definitions: the turns that are measured.
pub mod Turns
pub mod Instants
