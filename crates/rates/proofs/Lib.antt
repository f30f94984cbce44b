pub mod Table
pub mod Mixes
pub mod Unique
