pub mod FirstVersion
pub mod Versions
