-- All that stands here is the profile's.
pub mod NetworkText
