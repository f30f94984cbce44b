pub mod Watch
pub mod Rooms
pub mod Held
pub mod Sizes
pub mod Unique
