pub mod Refinement
pub mod Rows
pub mod Lent
