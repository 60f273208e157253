pub mod Fitting
pub mod Fixed
pub mod Lending
pub mod Putting
pub mod Mixing
