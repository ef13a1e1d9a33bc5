pub mod FrameSteps
pub mod SliceLaws
pub mod SectionLaws
