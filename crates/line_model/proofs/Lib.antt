pub mod LineLemmas
mod RunLemmas
