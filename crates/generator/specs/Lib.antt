pub mod Seeded
pub mod Trials
