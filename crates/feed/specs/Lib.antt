pub mod Alone
pub mod Values
pub mod Calls
pub mod Feed
