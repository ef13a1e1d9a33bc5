pub mod Numbers
pub mod Words
pub mod Least
pub mod LeastFreeRows
pub mod MarkRows
