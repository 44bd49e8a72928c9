pub mod Sequence
pub mod Checked
pub mod kept
pub mod laws
