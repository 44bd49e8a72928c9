pub mod Layout
pub mod Frames
pub mod kept
pub mod laws
