pub mod Testing
pub mod Listed
pub mod Forming
pub mod Lengths
pub mod Trials
pub mod Fields
pub mod Differ
pub mod Printing
