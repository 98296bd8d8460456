pub mod Outcomes
pub mod Recursion
pub mod Operators
pub mod Heads
pub mod Walk
pub mod Each
pub mod Cycle
