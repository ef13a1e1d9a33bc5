pub mod NetworkSection
