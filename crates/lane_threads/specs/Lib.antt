pub mod Segments
pub mod kept
pub mod laws
