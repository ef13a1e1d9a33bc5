pub mod Ended
pub mod Leaves
pub mod Seats
pub mod Steps
pub mod LineSteps
