pub mod Slots
pub mod Numbers
pub mod Receiver
