-- All that stands here is the profile's.
pub mod Texts
pub mod TextLaws
pub mod Faults
pub mod Endings
pub mod EndingLaws
pub mod Sinks
pub mod Streams
pub mod Buffers
pub mod DeliveryLaws
pub mod BufferLaws
pub mod Pairs
