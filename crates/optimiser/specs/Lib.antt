pub mod Optimised
pub mod Worked
