pub mod Typed
pub mod Given
pub mod Counts
pub mod Largest
