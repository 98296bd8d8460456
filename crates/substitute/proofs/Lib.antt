pub mod Bought
pub mod Part
pub mod Turns
pub mod Answers
