pub mod Settings
pub mod Others
