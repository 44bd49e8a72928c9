pub mod Sent
pub mod Locking
pub mod Loss
pub mod Received
pub mod kept
pub mod laws
