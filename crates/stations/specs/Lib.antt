pub mod Stations
pub mod StationsKept
pub mod Sound
pub mod Changes
pub mod Restoring
pub mod RestoredStations
