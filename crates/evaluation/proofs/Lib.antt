pub mod Bytes
pub mod OnlyOne
