pub mod Lists
pub mod Choices
pub mod Turns
pub mod Steps
pub mod Runs
pub mod Rows
pub mod LaneRows
