pub mod Parts
pub mod ReadSteps
pub mod PlayEnds
