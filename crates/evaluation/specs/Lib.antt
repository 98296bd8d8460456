pub mod Bytes
pub mod Work
