pub mod Names
pub mod Found
pub mod Told
pub mod Examples
