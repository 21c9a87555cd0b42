pub mod Brackets
pub mod Skips
pub mod Reads
