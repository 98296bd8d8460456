pub mod Applying
pub mod Telling
