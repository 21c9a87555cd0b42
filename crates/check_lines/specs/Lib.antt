pub mod Lines
pub mod Sarif
