pub mod ListedFiles
pub mod Outcome
pub mod Rows
