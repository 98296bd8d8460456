pub mod Entries
pub mod Taking
pub mod Putting
