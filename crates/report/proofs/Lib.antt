pub mod ReportRows
pub mod AddressDigits
