pub mod StreamLemmas
pub mod DivisionLemmas
pub mod BitLemmas
