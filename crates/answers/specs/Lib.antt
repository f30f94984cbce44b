pub mod Words
pub mod Lines
pub mod Faults
pub mod Rooms
pub mod Steps
