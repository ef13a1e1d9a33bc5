pub mod ConfigurationNetworks
pub mod ConfigurationReading
pub mod ConfigurationRows
pub mod ConfigurationSound
