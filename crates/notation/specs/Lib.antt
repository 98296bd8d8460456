pub mod Words
pub mod Texts
pub mod Grammar
pub mod Faults
