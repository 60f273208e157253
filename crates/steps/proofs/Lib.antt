pub mod Calling
pub mod Following
