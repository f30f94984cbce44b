-- The laws and theorems; a function's own proof stands in the folder of its name.
pub mod Rounding
pub mod Instants
pub mod Meaning
pub mod Range
pub mod Exact
pub mod Unique
