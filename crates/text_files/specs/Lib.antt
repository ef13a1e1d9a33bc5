-- All that stands here is the profile's.
pub mod AnsweredInput
pub mod CheckedFile
pub mod Faults
pub mod Files
pub mod Input
pub mod PlayedFiles
pub mod RunFiles
