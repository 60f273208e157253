pub mod Current
pub mod Outside
