pub mod Bits
pub mod Division
pub mod Search
pub mod Streams
pub mod kept
pub mod laws
