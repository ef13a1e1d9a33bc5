pub mod Starting
pub mod Offering
pub mod Endings
pub mod Receiving
