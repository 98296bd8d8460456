pub mod Tokens
pub mod Forms
pub mod Digits
pub mod Machine
pub mod Turns
pub mod Converts
