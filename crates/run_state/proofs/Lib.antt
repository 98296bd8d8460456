pub mod Does
pub mod Charged
pub mod Entries
pub mod Noting
pub mod Counting
