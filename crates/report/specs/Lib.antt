-- All that stands here is the profile's.
pub mod Report
pub mod Forms
