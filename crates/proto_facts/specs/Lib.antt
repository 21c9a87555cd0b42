pub mod Seen
pub mod Twice
pub mod Reach
