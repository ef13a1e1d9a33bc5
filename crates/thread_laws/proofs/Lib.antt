pub mod Lists
pub mod Taking
pub mod Leaving
pub mod Runs
