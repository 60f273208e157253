pub mod Running
pub mod Sample
