pub mod Back
pub mod Filled
pub mod Made
