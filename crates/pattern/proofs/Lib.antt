pub mod Trees
pub mod Kept
pub mod Laws
