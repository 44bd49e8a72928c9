pub mod Given
pub mod Ran
pub mod Rows
pub mod Frames
pub mod kept
