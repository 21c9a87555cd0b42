pub mod Numbered
pub mod ByFile
pub mod Ascending
pub mod Steps
pub mod Crossing
pub mod OwnDiags
pub mod Known
pub mod OfAnalysis
