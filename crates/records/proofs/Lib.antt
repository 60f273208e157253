pub mod Decoding
pub mod Encoding
