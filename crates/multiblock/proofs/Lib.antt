pub mod SyncLemmas
pub mod PlaceLemmas
pub mod Masks
pub mod Patterns
pub mod Hunting
