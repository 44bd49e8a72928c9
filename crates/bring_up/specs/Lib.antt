pub mod Decisions
pub mod kept
pub mod laws
