pub mod Summing
pub mod Adding
pub mod Columns
pub mod Placing
pub mod Report
