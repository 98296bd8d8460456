pub mod Working
pub mod Bytes
pub mod OnlyOne
pub mod Answers
pub mod Demands
