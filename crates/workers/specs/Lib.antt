pub mod Names
pub mod Outcomes
pub mod Seats
pub mod Giving
pub mod Copies
pub mod Ending
pub mod Receipts
