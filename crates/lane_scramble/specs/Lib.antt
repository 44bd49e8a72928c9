pub mod Scrambling
pub mod kept
pub mod laws
