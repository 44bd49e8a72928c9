pub mod LineBits
pub mod kept
