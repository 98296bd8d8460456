pub mod Printing
pub mod Reading
pub mod Decoding
pub mod Front
pub mod Waiting
pub mod Lengths
