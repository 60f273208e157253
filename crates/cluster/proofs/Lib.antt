pub mod Laws
pub mod Ranging
pub mod Steps
