pub mod Fitting
pub mod Reading
pub mod Writing
pub mod Returning
pub mod Resuming
