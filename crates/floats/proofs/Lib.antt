-- The laws and theorems; a function's own proof stands in the folder of its name.
pub mod Floor
pub mod Scaled
pub mod Sixteen
pub mod Meaning
pub mod Figures
pub mod Unique
