pub mod LineLemmas
pub mod RunRead
pub mod CauseLemmas
pub mod KeptLemmas
