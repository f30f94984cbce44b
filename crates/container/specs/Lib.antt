pub mod Contents
pub mod Bytes
pub mod Sizes
pub mod Parts
pub mod Passing
pub mod Reading
pub mod Writing
