pub mod Call
pub mod Calls
