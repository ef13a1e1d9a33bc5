pub mod Elements
pub mod Rates
