pub mod Counts
pub mod Afters
