pub mod Phrases
pub mod Line
pub mod Layout
pub mod Describe
