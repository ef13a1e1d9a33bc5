pub mod Lists
pub mod Items
pub mod Audiences
pub mod Lines
pub mod LentEvents
