pub mod ScrambleLemmas
pub mod TapLemmas
pub mod WordLemmas
