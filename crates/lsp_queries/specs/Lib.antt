pub mod Files
pub mod Offsets
pub mod Matching
pub mod Answers
pub mod Searching
pub mod PlaceLaws
pub mod Standing
