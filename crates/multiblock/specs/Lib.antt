pub mod SyncWords
pub mod Places
pub mod kept
pub mod laws
