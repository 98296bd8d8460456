pub mod Spans
pub mod Reads
pub mod Waits
pub mod Writes
pub mod Both
pub mod Bytes
