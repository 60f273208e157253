pub mod Mark
pub mod Trials
