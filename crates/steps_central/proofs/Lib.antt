pub mod Governing
pub mod Start
