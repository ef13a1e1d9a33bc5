pub mod TimRows
pub mod Octets
pub mod Partial
pub mod Spelling
pub mod Laws
pub mod Aids
pub mod Reading
