pub mod Configuration
pub mod Places
pub mod Samples
