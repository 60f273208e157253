pub mod Valid
pub mod Showing
