pub mod Planned
pub mod Delivery
