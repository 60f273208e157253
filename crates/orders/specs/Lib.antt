pub mod Orders
pub mod Noted
