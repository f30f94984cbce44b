-- The definitions of fields, frames and the call Line.
pub mod Fields
pub mod Changed
pub mod Lines
pub mod Pictures
pub mod History
pub mod Examples
