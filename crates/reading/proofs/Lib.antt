pub mod Decimal
pub mod Reading
