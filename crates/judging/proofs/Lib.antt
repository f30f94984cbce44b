pub mod Judges
pub mod Sizes
pub mod Reports
pub mod Unique
