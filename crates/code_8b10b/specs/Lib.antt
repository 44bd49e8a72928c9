pub mod Code
pub mod Reads
pub mod Commas
pub mod kept
pub mod laws
