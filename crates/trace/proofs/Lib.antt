pub mod AddressTexts
pub mod TraceRows
pub mod TraceSteps
pub mod DigitTexts
pub mod PieceLaws
pub mod PieceSteps
pub mod Blocks
