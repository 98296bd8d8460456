pub mod Found
pub mod Simple
pub mod Constant
pub mod Path
