-- What functions with empty bodies carry; each statement is proved.
pub mod BurstLaws
pub mod CorrectionLaws
pub mod ShiftingLaws
