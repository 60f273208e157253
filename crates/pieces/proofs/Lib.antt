pub mod Keeping
pub mod Trying
pub mod Standing
