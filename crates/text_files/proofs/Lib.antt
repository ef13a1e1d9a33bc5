pub mod AnsweredLemmas
pub mod CheckedLemmas
pub mod FileLemmas
pub mod InputLemmas
pub mod PlayedLemmas
pub mod RunLemmas
