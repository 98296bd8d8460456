pub mod Printing
pub mod Listing
