-- The definitions: the frames that are measured.
pub mod Frames
pub mod Instants
