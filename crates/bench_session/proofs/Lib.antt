-- The laws and theorems; a function's own proof stands in the folder of its name.
pub mod Left
pub mod Rows
pub mod Unique
