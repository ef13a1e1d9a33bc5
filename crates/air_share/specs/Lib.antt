pub mod Lanes
pub mod LaneRuns
