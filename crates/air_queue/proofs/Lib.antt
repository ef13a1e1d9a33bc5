pub mod Items
pub mod Entries
pub mod RuleSteps
pub mod Counts
pub mod Takings
pub mod Closings
pub mod QueueRows
