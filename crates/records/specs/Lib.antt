pub mod Record
pub mod Bytes
