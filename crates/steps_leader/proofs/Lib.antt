pub mod Afters
