-- All that stands here is the profile's.
pub mod Reading
pub mod Playing
