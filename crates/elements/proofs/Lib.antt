pub mod ElementRows
pub mod Walk
pub mod RateRows
