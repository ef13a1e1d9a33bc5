pub mod StationTables
pub mod StationsSound
pub mod StationStates
pub mod Restored
