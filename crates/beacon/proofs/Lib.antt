pub mod Samples
pub mod ProbeResponseRows
pub mod BeaconRows
