pub mod Work
pub mod State
pub mod Notes
