pub mod Ethernet
pub mod Encapsulation
