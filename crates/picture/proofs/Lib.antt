-- The laws of fields, frames and the call Line over plain histories.
pub mod Compared
pub mod Monitored
pub mod Judged
pub mod Rows
pub mod Kept
pub mod Framed
pub mod Steps
pub mod Answers
pub mod Sizes
pub mod Says
pub mod Unique
