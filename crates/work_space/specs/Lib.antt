pub mod View
pub mod BoardTexts
pub mod Kept
