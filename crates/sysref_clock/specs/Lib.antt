pub mod Clocks
pub mod kept
pub mod laws
