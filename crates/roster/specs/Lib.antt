pub mod KeptUnits
pub mod Keeping
pub mod AgingClocks
pub mod Roster
pub mod Changes
