pub mod LeastFree
pub mod Pool
pub mod Marks
pub mod Taking
