pub mod Replacement
pub mod Restoring
pub mod kept
pub mod laws
