pub mod Outcome
pub mod Steps
pub mod Way
