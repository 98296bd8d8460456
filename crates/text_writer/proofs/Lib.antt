pub mod Heads
pub mod Names
pub mod Digits
pub mod Endings
pub mod Pairs
