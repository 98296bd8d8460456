pub mod Savings
pub mod Adding
