pub mod ChangedEntries
pub mod FoundSlots
pub mod SlotOrder
pub mod IndexMended
