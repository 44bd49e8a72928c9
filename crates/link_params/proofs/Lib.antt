pub mod LawFacts
pub mod StepFacts
pub mod ConfigFacts
pub mod RunLemmas
