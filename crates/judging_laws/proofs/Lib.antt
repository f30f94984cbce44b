pub mod Positions
pub mod Kept
pub mod Files
pub mod Judging
