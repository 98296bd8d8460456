pub mod Heads
pub mod Values
