pub mod Burst
pub mod Corrects
pub mod kept
pub mod laws
