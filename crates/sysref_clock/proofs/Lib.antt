pub mod Captures
pub mod Edges
