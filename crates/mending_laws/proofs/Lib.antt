pub mod Mending
pub mod Fronts
pub mod Spans
