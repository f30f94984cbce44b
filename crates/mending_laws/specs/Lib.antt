pub mod Recordings
pub mod Spans
