pub mod TakeSteps
pub mod FrameSteps
pub mod SentSteps
