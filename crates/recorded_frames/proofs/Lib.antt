pub mod Rows
pub mod LinuxRows
pub mod Linux61Rows
pub mod Linux612Rows
pub mod HostapdRows
pub mod WiresRows
