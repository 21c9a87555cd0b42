pub mod Listing
pub mod Sarif
pub mod Steps
