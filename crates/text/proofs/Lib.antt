pub mod Pieces
pub mod Spelled
pub mod Unique
