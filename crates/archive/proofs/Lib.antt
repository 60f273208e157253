pub mod Archiving
pub mod Lengths
