pub mod Fours
pub mod Wide
pub mod Lengthens
