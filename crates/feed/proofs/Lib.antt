pub mod Instants
pub mod Kept
pub mod Sizes
pub mod Steps
pub mod Opening
pub mod Unique
