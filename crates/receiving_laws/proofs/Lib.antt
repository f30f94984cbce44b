pub mod Told
pub mod Runs
pub mod Fates
pub mod Held
pub mod Receiving
pub mod Contracts
