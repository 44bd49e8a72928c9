pub mod Faults
pub mod Causes
pub mod Readings
pub mod Checking
pub mod Places
