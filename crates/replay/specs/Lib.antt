-- All that stands here is the profile's.
pub mod Frames
pub mod Joined
pub mod Replay
pub mod Answer
pub mod Stream
pub mod Checking
