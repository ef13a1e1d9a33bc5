pub mod Keep
pub mod Returns
pub mod Queues
