pub mod Takes
pub mod SentFrames
pub mod WithFrames
