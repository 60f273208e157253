pub mod Lengths
pub mod Bytes
pub mod Numbering
pub mod Putting
pub mod Turns
pub mod Back
pub mod Starting
