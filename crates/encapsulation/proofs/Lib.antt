pub mod Frames
pub mod Bodies
pub mod Samples
pub mod EthernetRows
pub mod EncapsulationRows
