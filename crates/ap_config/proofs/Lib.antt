pub mod Checked
pub mod ConfigurationRows
