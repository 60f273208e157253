pub mod Guides
pub mod Lengths
