pub mod Layout
pub mod Parts
pub mod Stages
pub mod Ended
pub mod Codes
