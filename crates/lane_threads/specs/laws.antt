-- What functions with empty bodies carry; each statement is proved.
pub mod SegmentLaws
