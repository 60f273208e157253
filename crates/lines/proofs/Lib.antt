pub mod Eights
pub mod Lengths
