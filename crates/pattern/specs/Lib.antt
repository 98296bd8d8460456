pub mod Bound
pub mod Cases
