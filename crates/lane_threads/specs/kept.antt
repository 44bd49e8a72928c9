-- What values keep of their history; no reader has to believe it.
pub mod LaneEnds
pub mod LaneRuns
pub mod SegmentRuns
