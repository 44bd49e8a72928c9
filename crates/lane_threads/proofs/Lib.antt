pub mod KindEnds
pub mod PairLemmas
pub mod SegmentLemmas
pub mod InvertedBits
pub mod LaneLists
