pub mod Plan
pub mod Claim
pub mod Trials
