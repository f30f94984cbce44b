pub mod Register
pub mod Table
pub mod Writing
pub mod Reading
