pub mod ReadingLaws
pub mod EndingLaws
