pub mod Container
pub mod Padded
pub mod Back
pub mod There
pub mod Gives
pub mod Counts
pub mod Sizes
pub mod Largest
