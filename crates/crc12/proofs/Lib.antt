pub mod DivisionInParts
pub mod TableLemmas
pub mod ByteLemmas
