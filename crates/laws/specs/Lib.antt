pub mod Calls
pub mod Sums
pub mod Bytes
pub mod Video
pub mod Lists
pub mod Refusals
