pub mod Advert
pub mod ProbeResponse
pub mod Beacon
