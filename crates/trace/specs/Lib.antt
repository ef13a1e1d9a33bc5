-- All that stands here is the profile's.
pub mod TraceText
pub mod Pieces
pub mod LineLaws
