pub mod Later
pub mod Sheets
pub mod WellFormed
