pub mod Loaded
pub mod Image
pub mod Keeping
