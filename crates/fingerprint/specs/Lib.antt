-- The definitions: a fingerprint and what each call makes of it, its history, document 01's answers.
pub mod State
pub mod Parts
pub mod History
pub mod Paper
